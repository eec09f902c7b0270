-- The laws behind the movement call: the lines of the risks, the call, and its refusals.
pub mod Lines
pub mod Calls
pub mod Refusals
