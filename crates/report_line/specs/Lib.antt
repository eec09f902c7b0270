-- A line of the report. Assumes nothing.
pub mod Line
