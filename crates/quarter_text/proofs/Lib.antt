-- Laws of the lines: of sheets, of a sheet that is closed, and of the summary. Assumes nothing.
pub mod Rows
pub mod ClosedSheets
pub mod Examples
pub mod Accuracy
