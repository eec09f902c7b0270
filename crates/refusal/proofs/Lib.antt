-- Laws of a call's outcome.
pub mod Acceptance
