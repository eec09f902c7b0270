-- 'Rounding roots to nearest: the buffer can fall below the exact one.' Two blocks show it, in which I or D is the root of 679² + 3: to the
-- nearest it is 679 half cents, in half cents and in all of their parts down to hundredths, and K is 348 there, where the exact K is above 348
-- and K is 349.
-- Assumes nothing.
-- In order: a root to the nearest, and K with it; the exact buffer of the two blocks; the calls.
use Rattle.basics.proofs.Common.{◌≡◌, ℕ, ◌+◌, ◌-◌, ◌*◌, ◌^◌, ◌<◌, ◌≤◌, max, leb, List, [], ◌∷◌, get_or, ℤ, pos, refl, ap, ◌∙◌, mul-le-mul, mul-le-mul_left, mul-pos, arith, least, pick, least_eq}
use Rattle.std.proofs.lemmas.Nat.{mul-lt}
use Rattle.integer.specs.Sum.{sum}
use Rattle.refusal.specs.Outcome.{Outcome, Outcome.accepted}
use Rattle.sizes.specs.Sizes.{fineness, ten_thousandths}
use Rattle.guideline.specs.Factors.{factors}
use Rattle.guideline.specs.Block.{A, U, LT, Vh, y, ys, Q4, largest_of, largest, a, radicand, k_numerator}
use Rattle.guideline.specs.Operational.{total, volume, growth, operational_numerator}
use Rattle.accuracy.specs.Fraction.{Fraction, ◌≤ᶠ◌, ◌<ᶠ◌, whole, ratio}
use Rattle.accuracy.specs.Exact.{Fits}
use Rattle.guideline.specs.Buffer.{Sheet}
use Rattle.accuracy.specs.ExactBuffer.{StrictlyBelowBuffer}
use Rattle.accuracy.proofs.Fractions.{nat, radicand_nat}
use Rattle.accuracy.proofs.ExactFigures.{k_at_some}
use Rattle.calibration.specs.Points.{nothing}
use Rattle.calibration.specs.Miscalibrations.{MeetsBlock, nearest, KeepsWhole, k_by_roots, IToNearest, DToNearest}
use Rattle.calibration.proofs.Computation.{root_block, computed}

-- the nearest number, by what it reaches and what the one before it doesn't
pub nearest_is : (z w : ℕ) → w < 2 ^ 64 → z ≤ (2 * w + 1) * (2 * w + 1) → (0 < w → (2 * (w - 1) + 1) * (2 * (w - 1) + 1) < z) → nearest (pos z) ≡ w
unfolding nearest
nearest_is z w lt h short =
    least_eq z _ (λ m k le. omega (arith, mul-le-mul le le)) w lt (omega (arith, h)) (λ p. omega (arith, short p))

-- the root of 679² + 3 half cents, in f-ths of them
rounded : (f : ℕ) → 1 ≤ f → f ≤ fineness → nearest (pos (4 * (461044 * (f * f)))) ≡ 679 * f
rounded f l h =
    nearest_is _ (679 * f) (omega arith) (omega (arith, mul-le-mul_left f h))
    (λ p.
    let e : 2 * (679 * f - 1) + 1 + 1 ≡ 2 * (679 * f) = omega arith in
    omega (arith, ap (λ (x : ℕ). x * x) e, mul-pos l l))

-- and K there
k_is : (f : ℕ) → 1 ≤ f → least (λ k. leb (k_numerator (f * 391) (f * 0) (f * 782) (679 * f)) (60 * (f * 782 * (f * k)))) ≡ 348
k_is f l =
    least_eq _ (λ k. 60 * (f * 782 * (f * k))) (λ m k le. omega (arith, mul-le-mul_left (f * f) le)) 348 (omega arith) (omega arith)
    (λ p. omega (arith, mul-pos l l))

-- K by the finer I and D of a block, where its undiversified requirement is 391 and nothing of it is level and trend
k_at_d : (f d : ℕ) → 1 ≤ f → d ≡ 679 * f → least (λ k. leb (k_numerator (f * 391) (f * 0) (f * 782) d) (60 * (f * 782 * (f * k)))) ≡ 348
k_at_d f d l e = rw e (k_is f l)

module _ (f : ℕ) (l : 1 ≤ f) (h : f ≤ fineness) (of : ℤ → ℕ) (keeps : KeepsWhole of) where
  i_rounded : k_by_roots f nearest of (root_block 171 0) ≡ 348
  unfolding k_by_roots pick factors sum A U LT Vh y ys Q4 largest_of largest a
  i_rounded =
      let r : nearest (pos (f * f * 1844176)) ≡ 679 * f = ap (λ (x : ℕ). nearest (pos x)) (omega arith) ∙ rounded f l h in
      let i : max (nearest (pos (f * f * 1844176))) (f * 440) + f * (2 * 0) ≡ 679 * f = omega (arith, r) in
      let d : 4 * radicand (f * 0) (max (nearest (pos (f * f * 1844176))) (f * 440) + f * (2 * 0)) ≡ 4 * (679 * f * (679 * f)) = rw i (omega arith) in
      k_at_d f _ l (ap (λ (x : ℕ). of (pos x)) d ∙ keeps (679 * f) (omega arith))

  d_rounded : k_by_roots f of nearest (root_block 0 171) ≡ 348
  unfolding k_by_roots pick factors sum A U LT Vh y ys Q4 largest_of largest a
  d_rounded =
      let r : of (pos (f * f * 774400)) ≡ 440 * f = ap (λ (x : ℕ). of (pos x)) (omega arith) ∙ keeps (440 * f) (omega arith) in
      let i : max (of (pos (f * f * 774400))) (f * 440) + f * (2 * 0) ≡ 440 * f = omega (arith, r) in
      let d : 4 * radicand (f * 342) (max (of (pos (f * f * 774400))) (f * 440) + f * (2 * 0)) ≡ 4 * (461044 * (f * f)) = rw i (omega arith) in
      k_at_d f _ l (ap (λ (x : ℕ). nearest (pos x)) d ∙ rounded f l h)

-- ---- the exact buffer

-- a sheet with this block alone, and a scalar of one
abbrev alone : List ℕ → Sheet
alone b = record { blocks = b ∷ []; volumes = []; general = nothing; g = ten_thousandths; CRᵢ = 0; CRⱼ = 0; CG = 0 }

-- a d above 679 whose square is below 679² + 3
abbrev d₀ : Fraction
d₀ = ratio (pos 679001) 1000 (omega arith)

-- a fraction whose square is at least d₀'s is no smaller
no_smaller : (e : Fraction) → whole 0 0 ≤ᶠ e → e <ᶠ d₀ → 679001 * e.denominator * (679001 * e.denominator) ≤ nat e * 1000 * (nat e * 1000) → ⊥
no_smaller e n lt h =
    let k : nat e * 1000 < 679001 * e.denominator = omega arith in
    omega (arith, mul-lt _ _ _ _ k k)

fits_i : Fits (root_block 171 0) d₀
unfolding pick factors sum A U LT Vh y ys Q4 largest_of largest a
fits_i =
    record {
      third = omega arith;
      within = λ s.
          let e = s.smaller in
          let at = s.at.below d₀ (omega arith) (λ t. omega (arith, t.square)) in
          no_smaller e s.at.natural s.less (omega (arith, radicand_nat 0 679001 1000 (omega arith) e s.at.natural at));
    }

fits_d : Fits (root_block 0 171) d₀
unfolding A U LT Vh y ys largest_of largest a
fits_d =
    record {
      third = omega arith;
      within = λ s.
          let e = s.smaller in
          no_smaller e s.at.natural s.less (omega (arith, radicand_nat 342 440 1 (omega arith) e s.at.natural s.at.at_floor));
    }

-- 348 cents are strictly below the exact buffer of either
pub i_falls : StrictlyBelowBuffer (alone (root_block 171 0)) (whole 348 0)
unfolding total volume growth operational_numerator A U LT Vh
i_falls = record { choice = (d₀, fits_i, tt); below = rw (k_at_some (root_block 171 0) d₀ (omega arith) (omega arith)) (omega arith) }

pub d_falls : StrictlyBelowBuffer (alone (root_block 0 171)) (whole 348 0)
unfolding total volume growth operational_numerator A U LT Vh
d_falls = record { choice = (d₀, fits_d, tt); below = rw (k_at_some (root_block 0 171) d₀ (omega arith) (omega arith)) (omega arith) }

-- ---- the calls

module _ (call : List ℕ → Outcome) where
  -- what such a call makes of the block is strictly below the exact buffer
  pub i_below :
      IToNearest call → (vs : List ℕ) → call (root_block 171 0) ≡ accepted vs →
      StrictlyBelowBuffer (alone (root_block 171 0)) (whole (get_or vs 4 0) 0)
  i_below (f, of, l, h, keeps, wrong) vs e = rw (wrong _ vs refl e ∙ i_rounded f l h of keeps) i_falls

  pub d_below :
      DToNearest call → (vs : List ℕ) → call (root_block 0 171) ≡ accepted vs →
      StrictlyBelowBuffer (alone (root_block 0 171)) (whole (get_or vs 4 0) 0)
  d_below (f, of, l, h, keeps, wrong) vs e = rw (wrong _ vs refl e ∙ d_rounded f l h of keeps) d_falls

  -- K is 349 of both
  pub i_to_nearest : MeetsBlock call → IToNearest call → ⊥
  i_to_nearest meets (f, of, l, h, keeps, wrong) =
      omega (arith, wrong _ _ refl (meets _ refl ∙ computed.root_i), i_rounded f l h of keeps)

  pub d_to_nearest : MeetsBlock call → DToNearest call → ⊥
  d_to_nearest meets (f, of, l, h, keeps, wrong) =
      omega (arith, wrong _ _ refl (meets _ refl ∙ computed.root_d), d_rounded f l h of keeps)
