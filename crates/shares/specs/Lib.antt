-- The shares call: the margins of a block's parts, the call, and what it accepts.
pub mod Margins
pub mod Call
pub mod Accepted
pub mod Steps
