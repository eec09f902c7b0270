-- What an exported call leaves with its caller. Assumes nothing.
pub mod Caller
