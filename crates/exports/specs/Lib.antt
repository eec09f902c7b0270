-- The version of the exported calls. Assumes nothing.
pub mod Version
