-- The exact I, D and K, after document 01, 'The exact values', each sentence a definition. Assumes nothing.
use Rattle.std.specs.Prelude.{◌≡◌, List, ℕ, ◌+◌, ◌-◌, ◌*◌, ◌<◌, eqb, ℤ, pos, ◌+ℤ◌, ◌-ℤ◌, ◌*ℤ◌}
use Rattle.std.proofs.Common.{sym, ap, ◌∙◌, mul-pos, arith}
use Rattle.std.proofs.Math.Decide.{dec_lt}
use Rattle.std.proofs.Math.IntN.{sub_ℕ}
use Rattle.integer.specs.Larger.{larger}
use Rattle.integer.proofs.Integer.{as_diff, diff_eq, diff_add, diff_mul}
use Rattle.integer.proofs.Difference.{cut_larger, diff_less, times_diff}
use Rattle.basics.specs.Pick.{pick}
use Rattle.guideline.specs.Block.{PC, a, U, LT, Vh, largest, Q4}
use Rattle.accuracy.specs.Fraction.{Fraction, numerator, ◌≤ᶠ◌, ◌<ᶠ◌, whole, ratio, quarters, thrice, square_less, radicand_at, ≤ᶠ_trans, ≤ᶠ-<ᶠ_trans, square_rises}

-- 'A fraction i is at or above the exact I when i is at least the largest y + 2PC and (i − 2PC)² is at least Q; any other is below it'
pub record AtOrAboveI (b : List ℕ) (i : Fraction) : Type 0 where
  pub floor : whole (largest b + 2 * PC b) 0 ≤ᶠ i
  pub square : quarters (Q4 b) ≤ᶠ square_less i (2 * PC b)

-- 'A fraction d is at or above the exact D when d is 0 or more and d² is at least a² + a × i + i² for every i that is 0 or more and
-- below the exact I, and also for i equal to the largest y + 2PC; any other is below it'
pub record AtOrAboveD (b : List ℕ) (d : Fraction) : Type 0 where
  pub natural : whole 0 0 ≤ᶠ d
  pub below : (i : Fraction) → whole 0 0 ≤ᶠ i → ¬ AtOrAboveI b i → radicand_at (a b) i ≤ᶠ square_less d 0
  pub at_floor : radicand_at (a b) (whole (largest b + 2 * PC b) 0) ≤ᶠ square_less d 0

-- 'A fraction is strictly above one of these when a smaller fraction is at or above it'
pub record StrictlyAbove (AtOrAbove : Fraction → Type 0) (x : Fraction) : Type 0 where
  pub smaller : Fraction
  pub less : smaller <ᶠ x
  pub at : AtOrAbove smaller

-- 'A d fits a block when 3 × d is at least V and d isn't strictly above the exact D'
pub record Fits (b : List ℕ) (d : Fraction) : Type 0 where
  pub third : whole (Vh b) 0 ≤ᶠ thrice d
  pub within : ¬ StrictlyAbove (AtOrAboveD b) d

-- M with d for D, times the square of d's denominator
abbrev pub m_numerator : ℕ → Fraction → ℕ
m_numerator v d =
    let p = d.numerator⁺ in
    let q = d.numerator⁻ in
    let w = v * d.denominator in
    7 * (w * w) + 30 * (p * p + q * q) + 31 * (q * w) - (31 * (p * w) + 60 * (p * q))

-- in ℤ: the larger of 0 and 7V² − 31 × d × V + 30d², times the square of d's denominator
pub m_numerator_larger :
    (v : ℕ) (d : Fraction) →
    let w = v * d.denominator in
    pos (m_numerator v d) ≡ larger (pos 0) (pos (7 * (w * w)) -ℤ pos (31 * w) *ℤ numerator d +ℤ pos 30 *ℤ (numerator d *ℤ numerator d))
m_numerator_larger v d = cut_larger _ _ ∙ ap (larger (pos 0)) (sym (summed (v * d.denominator) d.numerator⁺ d.numerator⁻))
  where
    summed :
        (w p q : ℕ) →
        pos (7 * (w * w)) -ℤ pos (31 * w) *ℤ sub_ℕ p q +ℤ pos 30 *ℤ (sub_ℕ p q *ℤ sub_ℕ p q)
        ≡ sub_ℕ (7 * (w * w) + 30 * (p * p + q * q) + 31 * (q * w)) (31 * (p * w) + 60 * (p * q))
    summed w p q =
        let s = 7 * (w * w) in
        let n = 31 * w in
        let f = p * p + q * q in
        let g = p * q + q * p in
        (λ k. as_diff s k -ℤ times_diff n p q k +ℤ (ap (λ (z : ℤ). pos 30 *ℤ z) (diff_mul p q p q) ∙ times_diff 30 f g) k)
        ∙ ap (λ (z : ℤ). z +ℤ sub_ℕ (30 * f) (30 * g)) (diff_less s 0 (n * p) (n * q))
        ∙ diff_add (s + n * q) (0 + n * p) (30 * f) (30 * g)
        ∙ diff_eq (s + n * q + 30 * f) (0 + n * p + 30 * g) (s + 30 * f + 31 * (q * w)) (31 * (p * w) + 60 * (p * q)) (omega arith)

-- 48 × U × V + 6 × LT × V + M, with d for D in M, over 60 × V (V is above 0 in an accepted block whose U is)
abbrev pub k_fraction : (u l v : ℕ) → Fraction → Dec (0 < v) → Fraction
k_fraction u l v d (yes h) =
    let s = d.denominator * d.denominator in
    let n = (48 * (u * v) + 6 * (l * v)) * s + m_numerator v d in
    ratio (pos n) (60 * v * s) (mul-pos (mul-pos (omega arith) h) (mul-pos d.positive d.positive))
k_fraction u l v d (no h) = whole 0 0

-- 'K's fraction at d .. is zero if U is zero'
unfoldable pub k_at : List ℕ → Fraction → Fraction
k_at b d = pick (eqb (U b) 0) (whole 0 0) (k_fraction (U b) (LT b) (Vh b) d (dec_lt 0 (Vh b)))

-- 'A number is strictly below the exact K when it is below K's fraction at some d that fits'
pub record StrictlyBelowK (b : List ℕ) (x : Fraction) : Type 0 where
  pub d : Fraction
  pub fits : Fits b d
  pub below : x <ᶠ k_at b d

-- ---- each exact value is a cut: at or above it goes upwards, strictly below it goes downwards

-- what is at least a fraction at or above the exact I is at or above it too ..
pub i_upwards : (b : List ℕ) (i j : Fraction) → i ≤ᶠ j → AtOrAboveI b i → AtOrAboveI b j
i_upwards b i j h k =
    let c = 2 * PC b in
    let from : whole c 0 ≤ᶠ i = omega (arith, k.floor) in
    record {
      floor = ≤ᶠ_trans (whole (largest b + c) 0) i j k.floor h;
      square = ≤ᶠ_trans (quarters (Q4 b)) (square_less i c) (square_less j c) k.square (square_rises c i j from h);
    }

-- .. and so for the exact D
pub d_upwards : (b : List ℕ) (d e : Fraction) → d ≤ᶠ e → AtOrAboveD b d → AtOrAboveD b e
d_upwards b d e h k =
    let up = square_rises 0 d e k.natural h in
    record {
      natural = ≤ᶠ_trans (whole 0 0) d e k.natural h;
      below = λ i n t. ≤ᶠ_trans (radicand_at (a b) i) (square_less d 0) (square_less e 0) (k.below i n t) up;
      at_floor = ≤ᶠ_trans (radicand_at (a b) (whole (largest b + 2 * PC b) 0)) (square_less d 0) (square_less e 0) k.at_floor up;
    }

-- what is at most a fraction strictly below the exact K is strictly below it too
pub k_downwards : (b : List ℕ) (x y : Fraction) → x ≤ᶠ y → StrictlyBelowK b y → StrictlyBelowK b x
k_downwards b x y h k = record { d = k.d; fits = k.fits; below = ≤ᶠ-<ᶠ_trans x y (k_at b k.d) h k.below }
