-- The laws behind the division among parts: ranks in a strict order, the shares that they give, and what the code's steps find.
pub mod Ranks
pub mod Fairness
pub mod Parts
pub mod Cases
