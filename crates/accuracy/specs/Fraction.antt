-- Fractions, after document 01, 'The exact values': 'A fraction is a whole number, negative ones too, over a whole number above 0;
-- two are compared by multiplying across'.
--
-- The numerator is kept as a difference, `numerator⁺` less `numerator⁻`, so that each comparison is one inequality between naturals.
-- `ratio` makes the fraction of any whole number, and `numerator_of` says that nothing is lost. The laws after the definitions say the
-- comparison and each numerator in ℤ, where no difference is kept apart.
-- Assumes nothing.
use Rattle.std.specs.Prelude.{◌≡◌, ◌↔◌, ℕ, suc, ◌+◌, ◌-◌, ◌*◌, ◌≤◌, ◌<◌, ℤ, pos, negsuc, ◌+ℤ◌, ◌-ℤ◌, ◌*ℤ◌, ◌≤ℤ◌, ◌<ℤ◌}
use Rattle.std.proofs.Common.{sym, ap, ◌∙◌, mul-pos, mul-le-mul, mul-le-mul_right, mul-lt-mul_of_pos_right, le_of_mul-le-mul_right, lt_of_mul-lt-mul_right, arith}
use Rattle.std.proofs.Math.IntN.{sub_ℕ}
use Rattle.integer.proofs.Integer.{as_diff, neg_as_diff, diff_eq, diff_add, diff_mul}
use Rattle.integer.proofs.Difference.{less_diff, diff_le, diff_lt, diff_less, diff_times, times_diff}
use Rattle.sizes.specs.Sizes.{fineness}

-- `numerator⁺` less `numerator⁻`, over the denominator
pub record Fraction : Type 0 where
  pub numerator⁺ : ℕ
  pub numerator⁻ : ℕ
  pub denominator : ℕ
  pub positive : 0 < denominator

-- the numerator as a whole number, negative ones too
abbrev pub numerator : Fraction → ℤ
numerator x = sub_ℕ x.numerator⁺ x.numerator⁻

-- a whole number over a whole number above 0
abbrev pub ratio : ℤ → (n : ℕ) → 0 < n → Fraction
ratio (pos m) n h = record { numerator⁺ = m; numerator⁻ = 0; denominator = n; positive = h }
ratio (negsuc m) n h = record { numerator⁺ = 0; numerator⁻ = suc m; denominator = n; positive = h }

-- its numerator is that whole number
pub numerator_of : (z : ℤ) (n : ℕ) (h : 0 < n) → numerator (ratio z n h) ≡ z
numerator_of (pos m) n h = sym (as_diff m)
numerator_of (negsuc m) n h = sym (neg_as_diff (suc m))

-- 'compared by multiplying across'
infix 40 ◌≤ᶠ◌
abbrev pub ◌≤ᶠ◌ : Fraction → Fraction → Type 0
◌≤ᶠ◌ x y =
    x.numerator⁺ * y.denominator + y.numerator⁻ * x.denominator ≤ y.numerator⁺ * x.denominator + x.numerator⁻ * y.denominator

-- the same, strictly
infix 40 ◌<ᶠ◌
abbrev pub ◌<ᶠ◌ : Fraction → Fraction → Type 0
◌<ᶠ◌ x y =
    x.numerator⁺ * y.denominator + y.numerator⁻ * x.denominator < y.numerator⁺ * x.denominator + x.numerator⁻ * y.denominator

-- the whole number n less m
abbrev pub whole : ℕ → ℕ → Fraction
whole n m = record { numerator⁺ = n; numerator⁻ = m; denominator = 1; positive = omega arith }

-- n less m, over what I and D are worked out in: hundredths of the half cent, or of a cent
abbrev pub hundredths : ℕ → ℕ → Fraction
hundredths n m = record { numerator⁺ = n; numerator⁻ = m; denominator = fineness; positive = omega arith }

-- z quarters
abbrev pub quarters : ℤ → Fraction
quarters z = ratio z 4 (omega arith)

-- x + y
abbrev pub plus : Fraction → Fraction → Fraction
plus x y =
    record {
      numerator⁺ = x.numerator⁺ * y.denominator + y.numerator⁺ * x.denominator;
      numerator⁻ = x.numerator⁻ * y.denominator + y.numerator⁻ * x.denominator;
      denominator = x.denominator * y.denominator;
      positive = mul-pos x.positive y.positive;
    }

-- 3 × d
abbrev pub thrice : Fraction → Fraction
thrice d =
    record { numerator⁺ = 3 * d.numerator⁺; numerator⁻ = 3 * d.numerator⁻; denominator = d.denominator; positive = d.positive }

-- (i − c)²
abbrev pub square_less : Fraction → ℕ → Fraction
square_less i c =
    let p = i.numerator⁺ in
    let q = i.numerator⁻ + c * i.denominator in
    record {
      numerator⁺ = p * p + q * q;
      numerator⁻ = 2 * (p * q);
      denominator = i.denominator * i.denominator;
      positive = mul-pos i.positive i.positive;
    }

-- a² + a × i + i²
abbrev pub radicand_at : ℕ → Fraction → Fraction
radicand_at a i =
    let p = i.numerator⁺ in
    let q = i.numerator⁻ in
    let m = i.denominator in
    record {
      numerator⁺ = a * m * (a * m) + a * m * p + p * p + q * q;
      numerator⁻ = a * m * q + 2 * (p * q);
      denominator = m * m;
      positive = mul-pos i.positive i.positive;
    }

-- ---- the comparison and the numerators in ℤ

-- 'compared by multiplying across'
pub le_across : (x y : Fraction) → (x ≤ᶠ y) ↔ ((numerator x *ℤ pos y.denominator) ≤ℤ (numerator y *ℤ pos x.denominator))
le_across x y =
    let n = y.denominator in
    let m = x.denominator in
    rw (diff_times x.numerator⁺ x.numerator⁻ n, diff_times y.numerator⁺ y.numerator⁻ m)
    (diff_le (x.numerator⁺ * n) (x.numerator⁻ * n) (y.numerator⁺ * m) (y.numerator⁻ * m))

-- the same, strictly
pub lt_across : (x y : Fraction) → (x <ᶠ y) ↔ ((numerator x *ℤ pos y.denominator) <ℤ (numerator y *ℤ pos x.denominator))
lt_across x y =
    let n = y.denominator in
    let m = x.denominator in
    rw (diff_times x.numerator⁺ x.numerator⁻ n, diff_times y.numerator⁺ y.numerator⁻ m)
    (diff_lt (x.numerator⁺ * n) (x.numerator⁻ * n) (y.numerator⁺ * m) (y.numerator⁻ * m))

-- n − m
pub numerator_whole : (n m : ℕ) → numerator (whole n m) ≡ pos n -ℤ pos m
numerator_whole n m = sym (less_diff n m)

-- n − m, over 100
pub numerator_hundredths : (n m : ℕ) → numerator (hundredths n m) ≡ pos n -ℤ pos m
numerator_hundredths n m = sym (less_diff n m)

-- x + y, over the product of the denominators
pub numerator_plus : (x y : Fraction) → numerator (plus x y) ≡ numerator x *ℤ pos y.denominator +ℤ numerator y *ℤ pos x.denominator
numerator_plus x y = sym (summed x.numerator⁺ x.numerator⁻ y.numerator⁺ y.numerator⁻ x.denominator y.denominator)
  where
    summed : (p q r s m n : ℕ) → sub_ℕ p q *ℤ pos n +ℤ sub_ℕ r s *ℤ pos m ≡ sub_ℕ (p * n + r * m) (q * n + s * m)
    summed p q r s m n = (λ k. diff_times p q n k +ℤ diff_times r s m k) ∙ diff_add (p * n) (q * n) (r * m) (s * m)

-- 3 × d, over d's denominator
pub numerator_thrice : (d : Fraction) → numerator (thrice d) ≡ pos 3 *ℤ numerator d
numerator_thrice d = sym (times_diff 3 d.numerator⁺ d.numerator⁻)

-- (i − c)², over the square of i's denominator
pub numerator_square :
    (i : Fraction) (c : ℕ) →
    numerator (square_less i c) ≡ (numerator i -ℤ pos (c * i.denominator)) *ℤ (numerator i -ℤ pos (c * i.denominator))
numerator_square i c = sym (squared i.numerator⁺ i.numerator⁻ (c * i.denominator))
  where
    less : (p q n : ℕ) → sub_ℕ p q -ℤ pos n ≡ sub_ℕ p (q + n)
    less p q n = ap (λ (z : ℤ). sub_ℕ p q -ℤ z) (as_diff n) ∙ diff_less p q n 0 ∙ diff_eq (p + 0) (q + n) p (q + n) (omega arith)

    squared :
        (p q n : ℕ) → (sub_ℕ p q -ℤ pos n) *ℤ (sub_ℕ p q -ℤ pos n) ≡ sub_ℕ (p * p + (q + n) * (q + n)) (2 * (p * (q + n)))
    squared p q n =
        let r = q + n in
        (λ k. less p q n k *ℤ less p q n k)
        ∙ diff_mul p r p r
        ∙ diff_eq (p * p + r * r) (p * r + r * p) (p * p + r * r) (2 * (p * r)) (omega arith)

-- a² + a × i + i², over the square of i's denominator
pub numerator_radicand :
    (a : ℕ) (i : Fraction) →
    numerator (radicand_at a i) ≡ pos (a * i.denominator * (a * i.denominator)) +ℤ pos (a * i.denominator) *ℤ numerator i +ℤ numerator i *ℤ numerator i
numerator_radicand a i = sym (summed (a * i.denominator) i.numerator⁺ i.numerator⁻)
  where
    summed :
        (n p q : ℕ) → pos (n * n) +ℤ pos n *ℤ sub_ℕ p q +ℤ sub_ℕ p q *ℤ sub_ℕ p q ≡ sub_ℕ (n * n + n * p + p * p + q * q) (n * q + 2 * (p * q))
    summed n p q =
        let f = p * p + q * q in
        let g = p * q + q * p in
        (λ k. as_diff (n * n) k +ℤ times_diff n p q k +ℤ diff_mul p q p q k)
        ∙ ap (λ (z : ℤ). z +ℤ sub_ℕ f g) (diff_add (n * n) 0 (n * p) (n * q))
        ∙ diff_add (n * n + n * p) (0 + n * q) f g
        ∙ diff_eq (n * n + n * p + f) (0 + n * q + g) (n * n + n * p + p * p + q * q) (n * q + 2 * (p * q)) (omega arith)

-- ---- the order

-- 'at most' is passed on
pub ≤ᶠ_trans : (x y z : Fraction) → x ≤ᶠ y → y ≤ᶠ z → x ≤ᶠ z
≤ᶠ_trans x y z h k =
    le_of_mul-le-mul_right {k = y.denominator} (omega (arith, mul-le-mul_right z.denominator h, mul-le-mul_right x.denominator k)) y.positive

-- and what is at most one that is below a third is below the third
pub ≤ᶠ-<ᶠ_trans : (x y z : Fraction) → x ≤ᶠ y → y <ᶠ z → x <ᶠ z
≤ᶠ-<ᶠ_trans x y z h k =
    lt_of_mul-lt-mul_right y.denominator (omega (arith, mul-le-mul_right z.denominator h, mul-lt-mul_of_pos_right k x.positive))

-- of two differences over m and over n the larger has the larger square
squares :
    (p q s r m n : ℕ) → q ≤ p → r ≤ s → p * n + r * m ≤ s * m + q * n →
    (p * p + q * q) * (n * n) + 2 * (s * r) * (m * m) ≤ (s * s + r * r) * (m * m) + 2 * (p * q) * (n * n)
squares p q s r m n u v w = go (p - q) (s - r) (omega arith) (omega arith)
  where
    go :
        (x y : ℕ) → p ≡ q + x → s ≡ r + y →
        (p * p + q * q) * (n * n) + 2 * (s * r) * (m * m) ≤ (s * s + r * r) * (m * m) + 2 * (p * q) * (n * n)
    go x y e f =
        let t : x * n ≤ y * m = omega (arith, ap (λ (z : ℕ). z * n) e, ap (λ (z : ℕ). z * m) f) in
        rw (e, f) (omega (arith, mul-le-mul t t))

-- from c on, (i − c)² never falls as i rises
pub square_rises : (c : ℕ) (i j : Fraction) → whole c 0 ≤ᶠ i → i ≤ᶠ j → square_less i c ≤ᶠ square_less j c
square_rises c i j h k =
    let m = i.denominator in
    let n = j.denominator in
    let q = i.numerator⁻ + c * m in
    let r = j.numerator⁻ + c * n in
    let l = ≤ᶠ_trans (whole c 0) i j h k in
    squares i.numerator⁺ q j.numerator⁺ r m n (omega arith) (omega arith) (omega arith)

-- up to c it never rises
pub square_falls : (c : ℕ) (i j : Fraction) → i ≤ᶠ j → j ≤ᶠ whole c 0 → square_less j c ≤ᶠ square_less i c
square_falls c i j h k =
    let m = i.denominator in
    let n = j.denominator in
    let q = i.numerator⁻ + c * m in
    let r = j.numerator⁻ + c * n in
    let l = ≤ᶠ_trans i j (whole c 0) h k in
    omega (arith, squares r j.numerator⁺ q i.numerator⁺ n m (omega arith) (omega arith) (omega arith))
