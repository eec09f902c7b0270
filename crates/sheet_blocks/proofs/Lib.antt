-- Laws of the blocks worked out. Assumes nothing.
pub mod WorkedBlocks
