-- The movement call: what it writes, and how far K can move.
pub mod Call
pub mod Bounds
