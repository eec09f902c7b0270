-- The radicand that the code makes, what reaches, the seven rows, the rules, the accuracy rule, what the call accepts, and cases of its rules and rows.
pub mod Radicand
pub mod LeastCents
pub mod Rows
pub mod Rules
pub mod Demand
pub mod Acceptance
pub mod Cases
