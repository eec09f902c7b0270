-- What I is said by beside guideline's definition of it.
pub mod Radicand
