-- The exact total of accepted sheets, and how near the reported one comes. Document 02, #114: 'If a sheet is accepted, the total is at or above the exact
-- total, by less than the sum of the accepted sheets' allowances; a number is strictly below the exact total when it is a sum of numbers, one for each
-- accepted sheet, each strictly below that sheet's exact buffer.' Assumes nothing.
use Rattle.std.specs.Prelude.{List, [], ◌∷◌, ℕ, ◌+◌, ◌*◌}
use Rattle.std.proofs.Common.{arith}
use Rattle.accuracy.specs.Fraction.{Fraction, ◌≤ᶠ◌, whole, plus}
use Rattle.guideline.specs.Buffer.{Sheet, buffer}
use Rattle.accuracy.specs.ExactBuffer.{StrictlyBelowBuffer, millionths, allowance}

-- 'numbers, one for each accepted sheet, each strictly below that sheet's exact buffer'
abbrev pub Parts : List Sheet → Type 0
Parts [] = Unit {0}
Parts (s ∷ ss) = (x : Fraction) × StrictlyBelowBuffer s x × Parts ss

-- their sum
abbrev pub sum_of : (ss : List Sheet) → Parts ss → Fraction
sum_of [] p = whole 0 0
sum_of (s ∷ ss) p = plus p.0 (sum_of ss p.2)

-- 'A number is strictly below the exact total when it is a sum of numbers ..': the two fractions are the same number
pub record StrictlyBelowTotal (ss : List Sheet) (x : Fraction) : Type 0 where
  pub parts : Parts ss
  pub low : x ≤ᶠ sum_of ss parts
  pub high : sum_of ss parts ≤ᶠ x

-- the total of the reported buffers
unfoldable pub total_buffer : List Sheet → ℕ
total_buffer [] = 0
total_buffer (s ∷ ss) = buffer s + total_buffer ss

-- 'the sum of the accepted sheets' allowances', in millionths of a cent
unfoldable pub allowances : List Sheet → ℕ
allowances [] = 0
allowances (s ∷ ss) = allowance s + allowances ss

-- x cents less the allowances
abbrev pub less_allowances : List Sheet → ℕ → Fraction
less_allowances ss x = record { numerator⁺ = millionths * x; numerator⁻ = allowances ss; denominator = millionths; positive = omega arith }

-- of the total x that is reported of accepted sheets
pub record TotalDemand (ss : List Sheet) (x : ℕ) : Type 0 where
  -- 'the total is at or above the exact total'
  pub at : ¬ StrictlyBelowTotal ss (whole x 0)
  -- 'by less than the sum of the accepted sheets' allowances'
  pub near : StrictlyBelowTotal ss (less_allowances ss x)
