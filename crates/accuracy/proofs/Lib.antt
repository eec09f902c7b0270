-- How near the figures and the buffer are to the exact ones, and that each least number is the least of all whole numbers.
pub mod FractionBounds
pub mod Fractions
pub mod ExactFigures
pub mod ExactBuffer
pub mod LeastNumbers
pub mod Demand
