-- Fractions that are 0 or more as a natural over their denominator, and document 01's comparisons of them as inequalities of naturals.
-- Assumes nothing.
use Rattle.basics.proofs.Common.{◌≡◌, ℕ, ◌+◌, ◌-◌, ◌*◌, ◌<◌, ◌≤◌, pos, ap, mul-le-mul, mul-pos, arith}
use Rattle.guideline.specs.Block.{radicand, M}
use Rattle.accuracy.specs.Fraction.{Fraction, ◌≤ᶠ◌, whole, ratio, quarters, square_less, radicand_at, ≤ᶠ_trans}
use Rattle.accuracy.specs.Exact.{m_numerator}

-- its numerator
abbrev pub nat : Fraction → ℕ
nat x = x.numerator⁺ - x.numerator⁻

pub nat_is : (x : Fraction) → whole 0 0 ≤ᶠ x → x.numerator⁺ ≡ x.numerator⁻ + nat x
nat_is x h = omega arith

pub nat_le : (d e : Fraction) → whole 0 0 ≤ᶠ d → d ≤ᶠ e → nat d * e.denominator ≤ nat e * d.denominator
nat_le d e h k =
    omega (arith, ap (λ (z : ℕ). z * e.denominator) (nat_is d h), ap (λ (z : ℕ). z * d.denominator) (nat_is e (≤ᶠ_trans (whole 0 0) d e h k)))

-- the square of a difference, with no difference written
pub square_is : (p q n : ℕ) → p ≡ q + n → p * p + q * q ≡ n * n + 2 * (p * q)
square_is p q n e = rw e (omega arith)

-- M at a fraction is M at its natural and V × the denominator
pub m_numerator_is : (v : ℕ) (d : Fraction) → whole 0 0 ≤ᶠ d → m_numerator v d ≡ M (v * d.denominator) (nat d)
m_numerator_is v d h =
    let e = nat_is d h in
    omega (arith, square_is d.numerator⁺ d.numerator⁻ (nat d) e, ap (λ (z : ℕ). z * (v * d.denominator)) e)

-- (p − w)² where p − w is at least r
pub square_from : (q r p w : ℕ) → q ≤ 4 * (r * r) → r + w ≤ p → q + 8 * (p * w) ≤ 4 * (p * p + w * w)
square_from q r p w h k =
    let z : r ≤ p - w = omega arith in
    omega (arith, square_is p w (p - w) (omega arith), mul-le-mul z z)

-- what both sides have as well is left out, and put back
module _ (t u r x k l n m : ℕ) (t-is : t ≡ r + k) (u-is : u ≡ x + l) where
  left_out : t * n + l * m ≤ u * m + k * n → r * n ≤ x * m
  left_out h = omega (arith, ap (λ (z : ℕ). z * n) t-is, ap (λ (z : ℕ). z * m) u-is)

  put_back : r * n ≤ x * m → t * n + l * m ≤ u * m + k * n
  put_back h = omega (arith, ap (λ (z : ℕ). z * n) t-is, ap (λ (z : ℕ). z * m) u-is)

-- a² + a × i + i² ≤ e² on naturals, and back: i is x over its denominator, e is y over its
module _ (a : ℕ) (i e : Fraction) (x y : ℕ) (x-is : i.numerator⁺ ≡ i.numerator⁻ + x) (y_is : e.numerator⁺ ≡ e.numerator⁻ + y) where
  sum_is : (radicand_at a i).numerator⁺ ≡ radicand (a * i.denominator) x + (radicand_at a i).numerator⁻
  sum_is = omega (arith, square_is i.numerator⁺ i.numerator⁻ x x-is, ap (λ (z : ℕ). a * i.denominator * z) x-is)

  squared : (square_less e 0).numerator⁺ ≡ y * y + (square_less e 0).numerator⁻
  squared = omega (arith, square_is e.numerator⁺ e.numerator⁻ y y_is)

  pub on_naturals :
      radicand_at a i ≤ᶠ square_less e 0 → radicand (a * i.denominator * e.denominator) (x * e.denominator) ≤ y * i.denominator * (y * i.denominator)
  on_naturals h =
      let n = e.denominator in
      let m = i.denominator in
      omega (arith, left_out _ _ (radicand (a * m) x) (y * y) _ _ (n * n) (m * m) sum_is squared h)

  pub off_naturals :
      radicand (a * i.denominator * e.denominator) (x * e.denominator) ≤ y * i.denominator * (y * i.denominator) → radicand_at a i ≤ᶠ square_less e 0
  off_naturals h =
      let n = e.denominator in
      let m = i.denominator in
      put_back _ _ (radicand (a * m) x) (y * y) _ _ (n * n) (m * m) sum_is squared (omega arith)

-- at i = n/s
pub radicand_nat :
    (a n s : ℕ) (positive : 0 < s) (e : Fraction) → whole 0 0 ≤ᶠ e → radicand_at a (ratio (pos n) s positive) ≤ᶠ square_less e 0 →
    radicand (a * s * e.denominator) (n * e.denominator) ≤ nat e * s * (nat e * s)
radicand_nat a n s positive e h k = on_naturals a (ratio (pos n) s positive) e n (nat e) (omega arith) (nat_is e h) k

-- s/3 + c is below the exact I
pub third_below : (q s c : ℕ) (positive : 0 < 3) → s * s ≤ 2 * q → 0 < s → quarters (pos q) ≤ᶠ square_less (ratio (pos (3 * c + s)) 3 positive) c → ⊥
third_below q s c positive m h k = omega (arith, mul-pos h h)
