-- Two columns of a field at a time: the table has the last two columns of each number below 200, and each number has those of one below 200.
-- Assumes nothing.
use Rattle.basics.proofs.Common.{◌≡◌, ℕ, ◌+◌, ◌*◌, ◌/◌, ◌%◌, ◌<◌, ◌≤◌, get_or, sym, refl, ap, ◌∙◌, arith, pick, values_same, values}
use Rattle.field.specs.Field.{digit_or_space}
use Rattle.field.specs.declared.TheConstants.{LAST_TWO}
use Rattle.field.proofs.Inverse.{digit_shown}

-- ---- the table

pub tens_at : (p : ℕ) → p < 200 → get_or LAST_TWO (2 * p) 0 ≡ digit_or_space (p / 10)
unfolding values pick digit_or_space
tens_at = values_same (λ p. get_or LAST_TWO (2 * p) 0) (λ p. digit_or_space (p / 10)) 200 refl

pub ones_at : (p : ℕ) → p < 200 → get_or LAST_TWO (2 * p + 1) 0 ≡ digit_or_space p
unfolding values pick digit_or_space
ones_at = values_same (λ p. get_or LAST_TWO (2 * p + 1) 0) digit_or_space 200 refl

-- ---- the last two columns of a number of three digits or more

same_digit : (u v : ℕ) → 0 < u → 0 < v → u % 10 ≡ v % 10 → digit_or_space u ≡ digit_or_space v
same_digit u v h k e = digit_shown u h ∙ ap (λ (d : ℕ). 48 + d) e ∙ sym (digit_shown v k)

module _ (v : ℕ) (h : 100 ≤ v) where
  pub ones_alike : digit_or_space (100 + v % 100) ≡ digit_or_space v
  ones_alike = same_digit (100 + v % 100) v (omega arith) (omega arith) (omega arith)

  pub tens_alike : digit_or_space ((100 + v % 100) / 10) ≡ digit_or_space (v / 10)
  tens_alike = same_digit ((100 + v % 100) / 10) (v / 10) (omega arith) (omega arith) (omega arith)
