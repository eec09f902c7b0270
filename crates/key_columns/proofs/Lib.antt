-- Columns 1 to 9 written, and read back. Assumes nothing.
pub mod Columns
