-- One input of a block raised, and how far K moves.
pub mod Movement
