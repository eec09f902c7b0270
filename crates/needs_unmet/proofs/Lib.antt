-- What tables are asked for, and what they tell of a need. Assumes nothing.
pub mod Companions
pub mod Lookups
