-- The first place that passes a test. Document 01's refusals of a call name the first bad position. Assumes nothing.
use Rattle.std.specs.Prelude.{◌≡◌, Bool, true, false, Option, Some, None, ℕ, zero, suc, ◌≤◌, ◌<◌}
use Rattle.basics.specs.Pick.{pick}

-- the first of the n places from i on that passes `P`, and i + n where none does
unfoldable pub first_from : (ℕ → Bool) → ℕ → ℕ → ℕ
first_from P i zero = i
first_from P i (suc n) = pick (P i) i (first_from P (suc i) n)

-- the first place below n that passes `P`, and n where none does
abbrev pub first : (ℕ → Bool) → ℕ → ℕ
first P n = first_from P 0 n

-- what an Option says of such a first of n places: there is none, or it is k
abbrev pub FoundAt : ℕ → ℕ → Option ℕ → Type 0
FoundAt n first None = n ≤ first
FoundAt n first (Some k) = (k ≡ first) × (k < n)

-- whether one of the numbers 1 to n passes `P`
unfoldable pub any_to : (ℕ → Bool) → ℕ → Bool
any_to P zero = false
any_to P (suc n) = pick (any_to P n) true (P (suc n))
