-- What the block call is said by: the call itself, and what it accepts.
pub mod Call
pub mod Accepted
