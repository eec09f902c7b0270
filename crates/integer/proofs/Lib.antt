-- Laws of the integers that the library leaves out, of sums of them, and of differences of naturals.
pub mod Integer
pub mod Sums
pub mod Difference
