-- Words of columns: their bytes, and the numbers that they hold. Assumes nothing.
pub mod Bytes
pub mod Columns
pub mod Bits
pub mod Numbers
pub mod Fields
pub mod WordTests
