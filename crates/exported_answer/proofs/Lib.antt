-- Laws of what an exported call leaves, by the outcome of the call that it makes.
pub mod Promises
