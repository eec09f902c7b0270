-- The input's lines as they are read.
pub mod Lines
pub mod Numbers
