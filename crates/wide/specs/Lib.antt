-- What two words stand for. Assumes nothing.
pub mod Value
