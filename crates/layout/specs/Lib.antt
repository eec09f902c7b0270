-- The columns of a sheet's line, and the whole lines of a sheet. Assumes nothing.
pub mod Columns
pub mod Whole
