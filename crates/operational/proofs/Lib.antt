-- Laws of rules 15 and 7, that the operational call accepts just what they leave, and cases of their order.
pub mod Rules
pub mod Acceptance
pub mod Cases
