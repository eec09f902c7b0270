-- What the fluctuation call's steps hand on to one another. Assumes nothing.
use Rattle.std.specs.Prelude.{Option, Some, None, ℕ, ◌+◌, ◌-◌, ◌*◌, ◌≤◌, ◌<◌, ltb}
use Rattle.basics.specs.Pick.{pick}
use Rattle.amount.specs.Amount.{limit}
use Rattle.fluctuation.specs.Rows.{Row, base_of}
use Rattle.fluctuation.specs.Result.{scale}
use Rattle.fluctuation.specs.declared.Falling.{Falling}

-- the factor that a row picks: up to the threshold none, so that it is 1, above it the row's numbers and the base
unfoldable pub factor_for : Row → (b face : ℕ) → Option Falling
factor_for w b face =
    pick (ltb (100 * w.threshold) (base_of w b face)) (Some (record { 0 = w.first; 1 = w.second; 2 = base_of w b face })) None

-- no second number is above that of critical illness
abbrev pub most_second : ℕ
most_second = 14722

-- numbers and a base with which the factor is at most 1
pub record Falls (first second base b : ℕ) : Type 0 where
  pub positive : 0 < base
  pub small : base ≤ limit
  pub amount : b ≤ limit
  pub first_small : first ≤ 20
  pub second_small : second ≤ most_second
  pub at_most_one : scale * (second * second) ≤ (20 - first) * (20 - first) * base

-- an amount is below so many twentieths of a cent
abbrev pub most_twentieths : ℕ
most_twentieths = 20 * (limit + 1)

-- a base and a number c for which 20 × c over the root of the base in dollars is no more than that
pub record InReach (c base : ℕ) : Type 0 where
  pub positive : 0 < base
  pub small : base ≤ limit
  pub within : scale * (c * c) ≤ most_twentieths * most_twentieths * base
