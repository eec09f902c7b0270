-- A sheet by its length. Assumes nothing.
pub mod Measured
