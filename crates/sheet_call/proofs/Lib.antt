-- Laws of the sheet call: the report's lines and length, its answers, demand 3, sheets that look alike.
pub mod Rows
pub mod Rules
pub mod Accuracy
pub mod AlikeSheets
