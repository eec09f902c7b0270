-- A line of the report as it is written, and read back. Assumes nothing.
pub mod LineBytes
pub mod Readback
