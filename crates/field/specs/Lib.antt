-- A decimal number in columns. Assumes nothing.
pub mod Field
pub mod Signed
