-- The codes of a sheet's line. Assumes nothing.
pub mod Codes
