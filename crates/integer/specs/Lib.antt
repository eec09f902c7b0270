-- Sums in ℤ, and the larger of two.
pub mod Sum
pub mod Larger
