-- The laws behind the block call: its rules, what they leave, and cases of their order.
pub mod Rules
pub mod Acceptance
pub mod Cases
