-- The radicand of I, after document 02, #109: 'the radicand of I is 10,000 × Q'. proofs/Radicand shows that it is. Assumes nothing.
use Rattle.std.specs.Prelude.{List, ℕ, ◌*◌, ◌/◌, nat_abs}
use Rattle.sizes.specs.Sizes.{fineness}
use Rattle.guideline.specs.Block.{Q4}

-- a quarter of 10,000, which is whole, times four times Q, which is never below 0
unfoldable pub radicand_i : List ℕ → ℕ
radicand_i b = fineness * fineness / 4 * nat_abs (Q4 b)
