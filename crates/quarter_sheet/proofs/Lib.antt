-- Laws of a sheet's buffer.
pub mod Buffers
