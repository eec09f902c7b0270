-- The reported buffer against the exact one: block by block what is proved of K, summed, with less than a cent each for RO and the last
-- rounding. Assumes nothing.
use Rattle.basics.proofs.Common.{ℕ, ◌*◌, List, [], ◌∷◌, length, ap, mul-le-mul_right, mul-le-mul_left, mul-pos, arith, Each, least_ceil}
use native.Mathlib.Nat.{mul-lt-mul_of_pos_left}
use Rattle.guideline.specs.Block.{AcceptedBlock, K}
use Rattle.sizes.specs.Sizes.{ten_thousandths, fineness, block_allowance}
use Rattle.guideline.specs.Operational.{operational_denominator}
use Rattle.accuracy.specs.Fraction.{◌≤ᶠ◌, whole, hundredths}
use Rattle.accuracy.specs.Exact.{k_at}
use Rattle.guideline.specs.Buffer.{Sheet, sum_k, buffer, AcceptedSheet}
use Rattle.accuracy.specs.ExactBuffer.{Choice, sum_at, StrictlyBelowBuffer, less_allowance}
use Rattle.accuracy.proofs.ExactFigures.{k_bound, k_near_by}
use Rattle.guideline.proofs.Totals.{ro_law, bracket_is, buffer_law}

-- ---- sums of fractions

-- at any choice, K's fractions come to at most the sum of K
sum_high : (bs : List (List ℕ)) → Each AcceptedBlock bs → (c : Choice bs) → sum_at bs c ≤ᶠ whole (sum_k bs) 0
unfolding sum_k
sum_high [] vs c = omega arith
sum_high (b ∷ bs) vs c =
    omega (
      arith,
      mul-le-mul_right (sum_at bs c.2).denominator (k_bound b vs.0 c.0 c.1),
      mul-le-mul_right (k_at b c.0).denominator (sum_high bs vs.1 c.2),
    )

-- a choice at which they come to no less than the sum of K less 1.01 cents a block
sum_near : (bs : List (List ℕ)) → Each AcceptedBlock bs → (c : Choice bs) × (hundredths (fineness * sum_k bs) (block_allowance * length bs) ≤ᶠ sum_at bs c)
unfolding sum_k
sum_near [] vs = (tt, omega arith)
sum_near (b ∷ bs) vs =
    let k = k_near_by b vs.0 block_allowance (omega arith) in
    let r = sum_near bs vs.1 in
    let le : hundredths (fineness * K b) block_allowance ≤ᶠ k_at b k.d = omega (arith, k.below) in
    let x = sum_at bs r.0 in
    ((k.d, k.fits, r.0), omega (arith, mul-le-mul_right x.denominator le, mul-le-mul_right (k_at b k.d).denominator r.1))

-- ---- the buffer

module _ (s : Sheet) (v : AcceptedSheet s) where
  -- 'the reported buffer is at or above the exact one'
  pub buffer_at_lem : ¬ StrictlyBelowBuffer s (whole (buffer s) 0)
  buffer_at_lem t =
      let x = sum_at s.blocks t.choice in
      let g = s.g in
      let m = x.denominator in
      omega (
        arith,
        t.below,
        mul-le-mul_left g (sum_high s.blocks v.blocks_pass t.choice),
        mul-le-mul_left (g * m) (ro_law s.volumes s.general v.amounts).reaches,
        mul-le-mul_left m (buffer_law s v).reaches,
        ap (λ (z : ℕ). g * m * z) (bracket_is s v),
      )

  -- less the allowance it is strictly below it
  pub buffer_near : StrictlyBelowBuffer s (less_allowance s (buffer s))
  buffer_near =
      let r = sum_near s.blocks v.blocks_pass in
      let x = sum_at s.blocks r.0 in
      let g = s.g in
      let m = x.denominator in
      let ro = least_ceil operational_denominator _ _ (omega arith) (ro_law s.volumes s.general v.amounts) in
      let b = least_ceil ten_thousandths _ _ (omega arith) (buffer_law s v) in
      record {
        choice = r.0;
        below = omega (
          arith,
          mul-le-mul_left g r.1,
          mul-lt-mul_of_pos_left ro (mul-pos v.g_low x.positive),
          mul-lt-mul_of_pos_left b x.positive,
          ap (λ (z : ℕ). g * m * z) (bracket_is s v),
        );
      }
