-- Laws of those definitions, of lists that are written from their front, and of a number's digits: what the proofs of all other crates cite.
pub mod Picks
pub mod Branches
pub mod Halving
pub mod LeastOf
pub mod Firsts
pub mod Existence
pub mod Ranges
pub mod Values
pub mod Elements
pub mod Ascents
pub mod Stretches
pub mod Chunks
pub mod Roots
pub mod Digits
pub mod Tests
pub mod Totals
pub mod Common
