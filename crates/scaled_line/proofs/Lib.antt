-- What holds of a line in either sort of sheet. Assumes nothing.
pub mod SmallLetters
pub mod ScaledAmounts
pub mod Lines
pub mod MovedLines
pub mod StoredLines
