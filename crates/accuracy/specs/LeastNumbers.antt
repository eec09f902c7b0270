-- The figures that the papers define by a least number: of all whole numbers, with no bound to a search, each is the least that has its
-- property. proofs/LeastNumbers proves it of every block, of all operational amounts and of every sheet that is accepted. Assumes nothing.
use Rattle.std.specs.Prelude.{◌≡◌, List, ℕ, ◌+◌, ◌*◌, ◌≤◌, pos, ◌*ℤ◌, ◌≤ℤ◌}
use Rattle.basics.specs.Least.{LeastWith}
use Rattle.sizes.specs.Sizes.{fineness, ten_thousandths}
use Rattle.guideline.specs.Block.{U, y, Q4, largest, root, fine_i, a, fine_d, I, D, K, EachRisk}
use Rattle.guideline.specs.Operational.{operational_numerator, operational_denominator, RO}
use Rattle.accuracy.specs.Fraction.{◌≤ᶠ◌, whole, hundredths}
use Rattle.accuracy.specs.Exact.{AtOrAboveI, k_at}
use Rattle.guideline.specs.Buffer.{Sheet, bracket, buffer}

-- of a block that is accepted
pub record BlockLeast (b : List ℕ) : Type 0 where
  -- 'each root the least whole number of them (the radicand of I is 10,000 × Q)', both in quarters
  pub root_least : LeastWith (λ r. (pos 10000 *ℤ Q4 b) ≤ℤ pos (4 * (r * r))) (root b)
  -- 'the largest y(i)': the least number that none of them is above
  pub largest_least : LeastWith (λ m. EachRisk (λ i. y b i ≤ m)) (largest b)
  -- so the finer I is the least number of hundredths at or above the exact I, and the reported one the least whole number
  pub fine_i_least : LeastWith (λ i. AtOrAboveI b (hundredths i 0)) (fine_i b)
  pub i_least : LeastWith (λ i. AtOrAboveI b (whole i 0)) (I b)
  -- 'the least whole number whose square is at least a² + a × I + I²', of hundredths of the half cent
  pub fine_d_least : LeastWith (λ d. let x = fineness * a b in let i = fine_i b in x * x + x * i + i * i ≤ d * d) (fine_d b)
  -- 'in half cents, the least at or above'
  pub d_least : LeastWith (λ h. hundredths (fine_d b) 0 ≤ᶠ whole h 0) (D b)
  -- 'K is taken at this finer D and still rounded up to a cent': K's fraction there, which is zero if U is zero
  pub k_least : LeastWith (λ k. k_at b (hundredths (fine_d b) 0) ≤ᶠ whole k 0) (K b)
  pub k_zero : U b ≡ 0 → K b ≡ 0

-- of operational amounts: 'The sum, as a fraction over 50,000, is rounded up once, at the end, to RO'
abbrev pub OperationalLeast : List ℕ → List ℕ → Type 0
OperationalLeast l g = LeastWith (λ r. operational_numerator l g ≤ operational_denominator * r) (RO l g)

-- of a sheet: 'Buffer = g × (..), rounded up to a cent', both in ten-thousandths of a cent
abbrev pub BufferLeast : Sheet → Type 0
BufferLeast s = LeastWith (λ x. s.g * bracket s ≤ ten_thousandths * x) (buffer s)
