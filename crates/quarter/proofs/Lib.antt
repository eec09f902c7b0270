-- Laws of an input that is taken chunk by chunk, and of one that is whole. Assumes nothing.
pub mod SheetsSoFar
pub mod Chunks
pub mod WholeInput
pub mod InputEnd
pub mod Calls
