-- Section 11.1.1, level and trend of mortality, after document 02, #101: the aggregate of survival and death business and the credit for
-- diversification, reported and exact. S and T are 'the level and trend sums for survival and death products', in cents. Assumes nothing.
use Rattle.std.specs.Prelude.{◌≡◌, List, ℕ, ◌+◌, ◌-◌, ◌*◌, ◌≤◌, leb, pos, ◌-ℤ◌, set}
use Rattle.std.proofs.Common.{arith}
use Rattle.basics.specs.Least.{least, LeastWith}
use Rattle.integer.proofs.Difference.{exact_difference}
use Rattle.guideline.specs.Block.{ir, lt}
use Rattle.accuracy.specs.Fraction.{Fraction, ◌≤ᶠ◌, whole, ratio, square_less, ≤ᶠ_trans, square_falls}
use Rattle.guideline.proofs.Bounds.{twice}

-- twice S² + T² − 1.5 × S × T, which is a whole number
unfoldable pub twice_radicand : ℕ → ℕ → ℕ
twice_radicand s t = 2 * (s * s) + 2 * (t * t) - 3 * (s * t)

-- in ℤ: the difference is never below 0, so nothing of it is cut
pub radicand_difference : (s t : ℕ) → pos (twice_radicand s t) ≡ pos (2 * (s * s) + 2 * (t * t)) -ℤ pos (3 * (s * t))
unfolding twice_radicand
radicand_difference s t = exact_difference (2 * (s * s) + 2 * (t * t)) (3 * (s * t)) (twice_radicand s t) (omega (arith, twice s t))

-- 'Their aggregate is the least whole number of cents whose square is at least S² + T² − 1.5 × S × T', both twice
unfoldable pub aggregated : ℕ → ℕ → ℕ
aggregated s t = least (λ n. leb (twice_radicand s t) (2 * (n * n)))

-- for S and T within the limit it is, of all whole numbers and with no bound to a search, the least: proofs/Credits `aggregated_least`
abbrev pub AggregateLeast : ℕ → ℕ → Type 0
AggregateLeast s t = LeastWith (λ n. twice_radicand s t ≤ 2 * (n * n)) (aggregated s t)

-- 'The credit is S + T less the aggregate', which is at most S + T: proofs/Credits `shared`
unfoldable pub diversification_credit : ℕ → ℕ → ℕ
diversification_credit s t = s + t - aggregated s t

-- 'it lowers both IR(1) and LT(1) of the block', the first two of the block call's 17 numbers
unfoldable pub lowered : ℕ → List ℕ → List ℕ
lowered c b = set (set b 0 (ir b 1 - c)) 1 (lt b 1 - c)

-- ---- the exact credit

-- a fraction c is at or below the exact credit when S + T − c is 0 or more and its square is at least S² + T² − 1.5 × S × T; the square of
-- S + T − c is that of c − (S + T)
pub record AtOrBelowCredit (s t : ℕ) (c : Fraction) : Type 0 where
  pub within : c ≤ᶠ whole (s + t) 0
  pub square : ratio (pos (twice_radicand s t)) 2 (omega arith) ≤ᶠ square_less c (s + t)

-- what is at most a fraction at or below the exact credit is at or below it too
pub credit_downwards : (s t : ℕ) (c d : Fraction) → c ≤ᶠ d → AtOrBelowCredit s t d → AtOrBelowCredit s t c
credit_downwards s t c d h k =
    record {
      within = ≤ᶠ_trans c d (whole (s + t) 0) h k.within;
      square = ≤ᶠ_trans (ratio (pos (twice_radicand s t)) 2 (omega arith)) (square_less d (s + t)) (square_less c (s + t)) k.square (square_falls (s + t) c d h k.within);
    }

-- 'the credit itself is shown to be at most the exact one and less than a cent below it'
pub record CreditDemand (s t c : ℕ) : Type 0 where
  pub at : AtOrBelowCredit s t (whole c 0)
  pub near : ¬ AtOrBelowCredit s t (whole (c + 1) 0)
