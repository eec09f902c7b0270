-- The limit of an amount, and the first that passes it; rule 7.
pub mod Amount
pub mod Rule7
