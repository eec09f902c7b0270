-- How many there are of each thing, and how large a scalar and a figure can be.
pub mod Sizes
