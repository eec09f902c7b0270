-- What is held after some of the 49 products. Assumes nothing.
use Rattle.std.specs.Prelude.{◌≡◌, List, ℕ, ◌+◌, ◌*◌, ◌^◌, ◌≤◌, ℤ, nat_abs}
use Rattle.basics.specs.Each.{Each}
use Rattle.amount.specs.Amount.{limit}
use Rattle.sizes.specs.Sizes.{risks}
use Rattle.guideline.specs.Factors.{factor, so_far}

-- y(1) to y(7) of an accepted block: none is above twice the limit
abbrev pub SmallYs : List ℕ → Type 0
SmallYs ys = Each (λ y. y ≤ 2 * limit) ys

-- after k products: the sum s is that of the products so far, and it and the y(i) leave room for another
pub record SoFar (ys : List ℕ) (k : ℕ) (s : ℤ) : Type 0 where
  pub small : SmallYs ys
  pub sum : s ≡ so_far ys k
  pub room : nat_abs s ≤ k * 2 ^ 98

-- the factors of a row, counted from 0
abbrev pub Row : (row : ℕ) (f₁ f₂ f₃ f₄ f₅ f₆ f₇ : ℤ) → Type 0
Row row f₁ f₂ f₃ f₄ f₅ f₆ f₇ =
    (f₁ ≡ factor (risks * row + 0)) × (f₂ ≡ factor (risks * row + 1)) × (f₃ ≡ factor (risks * row + 2)) × (f₄ ≡ factor (risks * row + 3))
    × (f₅ ≡ factor (risks * row + 4)) × (f₆ ≡ factor (risks * row + 5)) × (f₇ ≡ factor (risks * row + 6))
