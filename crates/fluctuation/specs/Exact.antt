-- The exact result, after document 02, #104, in its own words. B and the face are in cents, and so is the fraction that is compared.
-- The laws after the definitions say each numerator in ℤ, and that what is at or above a number that is at or above the exact result is so
-- too. Assumes nothing.
use Rattle.std.specs.Prelude.{◌≡◌, ℕ, ◌+◌, ◌*◌, ◌≤◌, ◌<◌, pos, ◌-ℤ◌, ◌*ℤ◌}
use Rattle.std.proofs.Common.{sym, ◌∙◌, mul-pos, mul-le-mul_right, arith}
use Rattle.integer.proofs.Integer.{as_diff, diff_eq}
use Rattle.integer.proofs.Difference.{diff_less, diff_times, times_diff}
use Rattle.accuracy.specs.Fraction.{Fraction, numerator, ◌≤ᶠ◌, whole, square_less, ≤ᶠ_trans, square_rises}
use Rattle.fluctuation.specs.Rows.{Row, base_of}

-- n / 20
abbrev pub twentieths : ℕ → Fraction
twentieths n = record { numerator⁺ = n; numerator⁻ = 0; denominator = 20; positive = omega arith }

-- x − n / 20
abbrev pub less_twentieths : Fraction → ℕ → Fraction
less_twentieths x n =
    record {
      numerator⁺ = 20 * x.numerator⁺;
      numerator⁻ = 20 * x.numerator⁻ + n * x.denominator;
      denominator = 20 * x.denominator;
      positive = mul-pos (omega arith) x.positive;
    }

-- x × n / 100: an amount of n cents is n / 100 dollars
abbrev pub times_dollars : Fraction → ℕ → Fraction
times_dollars x n =
    record {
      numerator⁺ = x.numerator⁺ * n;
      numerator⁻ = x.numerator⁻ * n;
      denominator = x.denominator * 100;
      positive = mul-pos x.positive (omega arith);
    }

pub record AtOrAbove (w : Row) (b face : ℕ) (x : Fraction) : Type 0 where
  -- 'Up to the threshold the exact result is B'
  pub up_to : base_of w b face ≤ 100 * w.threshold → whole b 0 ≤ᶠ x
  -- 'above it a fraction, in cents like B, is at or above the exact result when it is at least B times the first number'
  pub over_first : 100 * w.threshold < base_of w b face → twentieths (w.first * b) ≤ᶠ x
  -- 'and the square of its excess over that, times the base in dollars, is at least the square of the product of B and the second number'
  pub square :
      100 * w.threshold < base_of w b face →
      whole (b * w.second * (b * w.second)) 0 ≤ᶠ times_dollars (square_less (less_twentieths x (w.first * b)) 0) (base_of w b face)

-- ---- the numerators in ℤ

-- x − n / 20, over 20 times x's denominator
pub numerator_less : (x : Fraction) (n : ℕ) → numerator (less_twentieths x n) ≡ (pos 20 *ℤ numerator x) -ℤ pos (n * x.denominator)
numerator_less x n =
    let p = 20 * x.numerator⁺ in
    let q = 20 * x.numerator⁻ in
    let m = n * x.denominator in
    sym (
    (λ k. times_diff 20 x.numerator⁺ x.numerator⁻ k -ℤ as_diff m k)
    ∙ diff_less p q m 0
    ∙ diff_eq (p + 0) (q + m) p (q + m) (omega arith)
    )

-- x × n / 100, over 100 times x's denominator
pub numerator_dollars : (x : Fraction) (n : ℕ) → numerator (times_dollars x n) ≡ numerator x *ℤ pos n
numerator_dollars x n = sym (diff_times x.numerator⁺ x.numerator⁻ n)

-- ---- a number above one that is at or above the exact result is so too

module _ (x y : Fraction) (h : x ≤ᶠ y) where
  -- an excess rises with the number
  less_rises : (n : ℕ) → less_twentieths x n ≤ᶠ less_twentieths y n
  less_rises n = omega (arith, h)

  -- and a product
  dollars_rise : (n : ℕ) → times_dollars x n ≤ᶠ times_dollars y n
  dollars_rise n = omega (arith, mul-le-mul_right (100 * n) h)

pub at_or_above_rises : (w : Row) (b face : ℕ) (x y : Fraction) → x ≤ᶠ y → AtOrAbove w b face x → AtOrAbove w b face y
at_or_above_rises w b face x y h a =
    let n = w.first * b in
    let s = square_less (less_twentieths x n) 0 in
    let t = square_less (less_twentieths y n) 0 in
    let m = whole (b * w.second * (b * w.second)) 0 in
    record {
      up_to = λ k. ≤ᶠ_trans (whole b 0) x y (a.up_to k) h;
      over_first = λ k. ≤ᶠ_trans (twentieths n) x y (a.over_first k) h;
      square = λ k.
          let over = a.over_first k in
          ≤ᶠ_trans m (times_dollars s (base_of w b face)) (times_dollars t (base_of w b face)) (a.square k)
          (dollars_rise s t (square_rises 0 (less_twentieths x n) (less_twentieths y n) (omega (arith, over)) (less_rises x y h n)) (base_of w b face));
    }
