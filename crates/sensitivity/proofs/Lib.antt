-- The laws behind one moved input: the form along one risk, the raised block's figures, the exact I and D of two near blocks, K's fractions, and K.
pub mod QuadraticForm
pub mod RaisedBlock
pub mod NearBlocks
pub mod Fractions
pub mod Movement
