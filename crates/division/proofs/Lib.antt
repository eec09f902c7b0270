-- What the proofs of the divisions share: laws of quotients and rests.
pub mod Quotients
