-- What the steps hand on to one another, and the call on a whole input. Assumes nothing.
pub mod Steps
pub mod Call
