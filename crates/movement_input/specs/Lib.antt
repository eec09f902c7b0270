-- The lines of the movement call's input, and their numbers. Assumes nothing.
pub mod Reading
