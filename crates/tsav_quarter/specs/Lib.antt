-- What is known once an input was taken, and of the lines that are written.
pub mod Input
pub mod Output
