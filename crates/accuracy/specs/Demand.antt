-- Demand 3: what proofs/Demand proves of every block and every sheet that is accepted. Assumes nothing.
use Rattle.std.specs.Prelude.{List, ℕ, ◌+◌, ◌*◌, ◌≤◌}
use Rattle.sizes.specs.Sizes.{fineness, block_allowance}
use Rattle.guideline.specs.Block.{U, LT, Vh, fine_i, fine_d, I, D, K, requirement}
use Rattle.accuracy.specs.Fraction.{Fraction, ◌≤ᶠ◌, whole, hundredths, thrice}
use Rattle.accuracy.specs.Exact.{AtOrAboveI, AtOrAboveD, Fits, m_numerator, k_at, StrictlyBelowK}
use Rattle.guideline.specs.Buffer.{Sheet}
use Rattle.accuracy.specs.ExactBuffer.{StrictlyBelowBuffer, less_allowance}

-- of a block that is accepted
pub record BlockDemand (b : List ℕ) : Type 0 where
  -- 'D is at most V', '3 × D is at least V'
  pub d_high : D b ≤ Vh b
  pub d_third : Vh b ≤ 3 * D b
  -- and so for the finer D
  pub fine_d_high : fine_d b ≤ fineness * Vh b
  pub fine_d_third : fineness * Vh b ≤ 3 * fine_d b
  -- M never falls as d rises from V/3: M with d for D is m_numerator over the square of d's denominator
  pub m_rises :
      (d e : Fraction) → whole (Vh b) 0 ≤ᶠ thrice d → d ≤ᶠ e →
      m_numerator (Vh b) d * (e.denominator * e.denominator) ≤ m_numerator (Vh b) e * (d.denominator * d.denominator)
  -- nor does K's fraction
  pub fraction_rises : (d e : Fraction) → whole (Vh b) 0 ≤ᶠ thrice d → d ≤ᶠ e → k_at b d ≤ᶠ k_at b e
  -- 'so K never falls as D rises', D in hundredths of the half cent
  pub k_rises :
      (d e : ℕ) → fineness * Vh b ≤ 3 * d → d ≤ e → e ≤ fineness * Vh b → requirement (U b) (LT b) (Vh b) d ≤ requirement (U b) (LT b) (Vh b) e
  -- 'For every block 2 × K is at least LT + D, and K is at most U'
  pub k_twice : LT b + D b ≤ 2 * K b
  pub k_high : K b ≤ U b
  -- the finer I and D are at or above the exact ones, and so are the reported ones
  pub fine_i_at : AtOrAboveI b (hundredths (fine_i b) 0)
  pub fine_d_at : AtOrAboveD b (hundredths (fine_d b) 0)
  pub i_at : AtOrAboveI b (whole (I b) 0)
  pub d_at : AtOrAboveD b (whole (D b) 0)
  -- every d that fits is at most the finer D, and so at most the reported one
  pub fits_below : (d : Fraction) → Fits b d → d ≤ᶠ hundredths (fine_d b) 0
  pub fits_reported : (d : Fraction) → Fits b d → d ≤ᶠ whole (D b) 0
  -- the reported K is not strictly below the exact K, and it is 'less than 1.01 cents above the exact one': K − 1.01 is strictly below
  pub k_not_below : ¬ StrictlyBelowK b (whole (K b) 0)
  pub k_near : StrictlyBelowK b (hundredths (fineness * K b) block_allowance)

-- of the buffer x that a sheet's report gives
pub record BufferDemand (s : Sheet) (x : ℕ) : Type 0 where
  -- 'the reported buffer is at or above the exact one'
  pub at : ¬ StrictlyBelowBuffer s (whole x 0)
  -- 'the reported buffer less the allowance is strictly below the exact buffer'
  pub near : StrictlyBelowBuffer s (less_allowance s x)
