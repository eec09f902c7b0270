-- Columns as words. Assumes nothing.
pub mod Words
