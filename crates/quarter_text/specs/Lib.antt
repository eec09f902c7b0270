-- What is printed of an input that holds sheets, and what its summary says. Assumes nothing.
pub mod Printout
pub mod Demand
