-- Columns 1 to 9 of a line. Assumes nothing.
pub mod Key
