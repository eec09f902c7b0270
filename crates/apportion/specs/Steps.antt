-- What the division among parts is handed, and what it hands on. Assumes nothing.
use Rattle.std.specs.Prelude.{◌≡◌, List, map, ℕ, ◌^◌, ◌<◌}
use Rattle.division.specs.declared.Division.{Division}
use Rattle.apportion.specs.Shares.{total}

-- K with room for a cent more, and margins that are not all zero, with their sum
pub record Shareable (k : ℕ) (margin : ℕ → ℕ) (sum : ℕ) : Type 0 where
  pub small : k < 2 ^ 63
  pub sum_is : sum ≡ total margin
  pub some : 0 < sum
  pub fits : sum < 2 ^ 63

-- the quotients of divisions in their order, and the rests
abbrev pub quotients : List (Division ℕ) → List ℕ
quotients l = map (λ d. d.quotient) l

abbrev pub rests : List (Division ℕ) → List ℕ
rests l = map (λ d. d.rest) l
