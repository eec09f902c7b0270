-- The exact values in document 01's letters, demand 3, and the least numbers.
pub mod Fraction
pub mod Exact
pub mod ExactBuffer
pub mod LeastNumbers
pub mod Demand
