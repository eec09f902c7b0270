-- Laws of the mortality credit, and of a block that it lowers.
pub mod Credits
pub mod Acceptance
