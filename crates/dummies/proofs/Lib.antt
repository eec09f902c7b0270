-- No dummy meets the sheet call's contract, and a program of each kind meets the premise of its kind.
pub mod SmallSheets
pub mod Dummies
pub mod FilledSheets
pub mod Programs
