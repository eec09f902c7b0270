-- What columns 4 to 40 guarantee, and a whole line as it is lent. Assumes nothing.
pub mod Columns
pub mod WholeLines
