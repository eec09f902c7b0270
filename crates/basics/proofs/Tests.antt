-- Two tests are one where the orders that they test follow from one another. Assumes nothing.
use Rattle.std.proofs.Common.{◌≡◌, ℕ, ◌≤◌, leb, lt_of_not-le, arith, le-leb}
use borrow.Author.Tests.{lt-leb}

pub leb_same : (a b c d : ℕ) → (a ≤ b → c ≤ d) → (c ≤ d → a ≤ b) → leb a b ≡ leb c d
leb_same a b c d f g = grind (arith, le-leb, lt-leb, lt_of_not-le)
