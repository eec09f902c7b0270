-- The lines of a sheet read into a ledger. Assumes nothing.
pub mod Filling
