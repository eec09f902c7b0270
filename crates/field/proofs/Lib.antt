-- A number field written two columns at a time, and that reading is the inverse of writing. Assumes nothing.
pub mod WrittenColumns
pub mod Inverse
pub mod Pairs
pub mod Minus
