-- A sheet's lines as a list of entries, the place that each has in the tables, and their marks. Assumes nothing.
pub mod Entries
pub mod Places
pub mod Marks
