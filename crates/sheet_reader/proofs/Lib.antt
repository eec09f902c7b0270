-- What holds of the ledger after some lines of a sheet. Assumes nothing.
pub mod FilledLedger
