-- The laws behind the shares call: the block without a part, its margins, its rules, and what they leave.
pub mod PartsLeftOut
pub mod Margins
pub mod Rules
pub mod Acceptance
