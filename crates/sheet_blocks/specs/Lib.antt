-- The blocks of a sheet, and what is worked out of them. Assumes nothing.
pub mod Blocks
pub mod Steps
