-- A line of the sheet: how it is printed, and its rules. Assumes nothing.
pub mod Line
pub mod Rules
