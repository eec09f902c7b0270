-- The call that converts a sheet, and its steps. Assumes nothing.
pub mod Call
pub mod Steps
