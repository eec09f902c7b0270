-- A line's bytes as they are written. Assumes nothing.
pub mod LineBytes
