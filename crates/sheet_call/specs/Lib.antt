-- The sheet call, what is printed, and demand 3 of the report's bytes.
pub mod Call
pub mod Demand
