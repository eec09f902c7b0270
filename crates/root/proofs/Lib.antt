-- The length of a radicand and its steps; the window that its digits are brought down from; the root rounded down; the root found one digit at a
-- time.
pub mod Lengths
pub mod Windows
pub mod LowerRoots
pub mod Roots
