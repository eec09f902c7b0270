-- What every call gives: accepted with values, or refused with a number and a place; and what is said of every call by that.
pub mod Outcome
pub mod Accepted
