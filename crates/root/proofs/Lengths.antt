-- The steps of a root are as many as the radicand has digits in base 4, and the leading zeros of its words give them. Assumes nothing.
use Rattle.basics.proofs.Common.{◌≡◌, ℕ, zero, suc, ◌+◌, ◌-◌, ◌*◌, ◌/◌, ◌^◌, ◌<◌, ◌≤◌, max, refl, mul-le-mul_right, suc-add, lt_of_not-le, arith, pow_pos, pow_mono, pow-add, dec_le, pow-succ'}
use Rattle.basics.proofs.Common.{pow-le-pow_right, digits_lt, count_leading_zeros}
use native.Mathlib.Nat.{le_refl}
use lib.Count.{leading_top, leading_of_zero}
use Rattle.root.specs.Steps.{length_in, binary_length, HasLength, steps}

-- n has k binary digits, the first of them not 0
record Counted (n k : ℕ) : Type 0 where
  no_more : n < 2 ^ k
  no_less : 2 ^ k ≤ max 1 (2 * n)

counted_in : (f n : ℕ) → n ≤ f → Counted n (length_in f n)
counted_in zero n h = record { no_more = omega arith; no_less = omega arith }
counted_in (suc f) zero h = record { no_more = omega arith; no_less = omega arith }
counted_in (suc f) (suc k) h =
    let w = counted_in f (suc k / 2) (omega arith) in
    let e = pow-succ' 2 (length_in f (suc k / 2)) in
    record { no_more = omega (arith, e, w.no_more); no_less = omega (arith, e, w.no_less) }

counted : (n : ℕ) → Counted n (binary_length n)
unfolding binary_length
counted n = counted_in n n (le_refl n)

-- the law of the binary length
pub has_length : (n : ℕ) → HasLength n (binary_length n)
has_length n = go (binary_length n) (counted n)
  where
    go : (k : ℕ) → Counted n k → HasLength n k
    go zero w = record { below = w.no_more; at_least = λ p. omega (arith, w.no_more); none = λ e. omega arith }
    go (suc k) w =
        let e : suc k - 1 ≡ k = omega arith in
        let double = pow-succ' 2 k in
        record {
          below = w.no_more;
          at_least = λ p. rw e (omega (arith, double, w.no_less));
          none = λ z. omega (arith, double, w.no_less, pow_pos k);
        }

-- 4 ^ m as a power of 2
pub four : (m : ℕ) → 4 ^ m ≡ 2 ^ (2 * m)
four zero = refl
four (suc m) =
    let e : 2 * suc m ≡ 2 + 2 * m = omega arith in
    rw (e, pow-succ' 4 m, four m, pow-add 2 2 (2 * m))

-- n has k digits in base 4, the first of them not 0
pub record HasDigits (n k : ℕ) : Type 0 where
  pub no_more : n < 4 ^ k
  pub no_less : 4 ^ k ≤ max 1 (4 * n)

-- half the padded length is the number of digits in base 4
pub has_digits : (n : ℕ) → HasDigits n (steps n)
unfolding steps
has_digits n = go (binary_length n) (steps n) (omega arith) (omega arith) (has_length n)
  where
    go : (k s : ℕ) → k ≤ 2 * s → 2 * s ≤ k + 1 → HasLength n k → HasDigits n s
    go zero s even most w =
        let z : s ≡ 0 = omega arith in
        record { no_more = rw z (omega (arith, w.below)); no_less = rw z (omega arith) }
    go (suc k) s even most w =
        let some : 0 < n = elim (dec_le 1 n) [ yes h ↦ h | no h ↦ absurd (omega (arith, w.none (omega arith))) ] in
        let e : suc k - 1 ≡ k = omega arith in
        let first : 2 ^ k ≤ n = rw e at (w.at_least some) in
        let low : 2 ^ suc k ≤ 2 ^ (2 * s) = pow_mono even in
        let up : 2 ^ (2 * s) ≤ 2 ^ (suc k + 1) = pow_mono most in
        let f = four s in
        record { no_more = omega (arith, w.below); no_less = omega (arith, first, pow-add 2 (suc k) 1, pow-succ' 2 k) }

-- a number below 4 ^ m has no more than m digits
few : {n k : ℕ} (m : ℕ) → HasDigits n k → n < 4 ^ m → k ≤ m
few {n} {k} m w h = either (dec_le k m)
  where
    either : Dec (k ≤ m) → k ≤ m
    either (yes l) = l
    either (no l) =
        let p : 4 ^ suc m ≤ 4 ^ k = pow-le-pow_right {n = 4} (omega arith) (lt_of_not-le l) in
        absurd (omega (arith, pow-succ' 4 m, w.no_less))

-- and so no more than m steps
pub few_steps : (n m : ℕ) → n < 4 ^ m → steps n ≤ m
few_steps n m h = few m (has_digits n) h

-- there is one such number
count_unique : (n k : ℕ) → HasDigits n k → k ≡ steps n
count_unique n k w = omega (arith, few (steps n) w (has_digits n).no_more, few_steps n k w.no_more)

-- it computes on numerals of 100 bits
computed : steps 1267650600228229401496703205376 ≡ 51
unfolding binary_length steps
computed = refl

-- their number from the place of the first binary digit
count_by : (n j : ℕ) → 2 ^ j ≤ n → n < 2 ^ suc j → (j + 2) / 2 ≡ steps n
count_by n j h k =
    let d : ℕ = (j + 2) / 2 in
    let low : 2 ^ suc j ≤ 2 ^ (2 * d) = pow_mono (omega arith) in
    let up : 2 ^ (2 * d) ≤ 2 ^ (j + 2) = pow_mono (omega arith) in
    let f = four d in
    count_unique n d (record { no_more = omega arith; no_less = omega (arith, pow-add 2 j 2) })

-- and from the leading zeros of the only word that is not 0, or of the upper one
pub one_word : (l : ℕ) → l < 2 ^ 64 → (65 - count_leading_zeros 64 l) / 2 ≡ steps l
one_word l h = either (dec_le 1 l)
  where
    either : Dec (0 < l) → (65 - count_leading_zeros 64 l) / 2 ≡ steps l
    either (yes p) =
        let t = leading_top 64 l p h in
        let e : 65 - count_leading_zeros 64 l ≡ t.0 + 2 = omega (arith, t.1) in
        rw e (count_by l t.0 t.2 t.3)
    either (no p) =
        let e : l ≡ 0 = omega arith in
        rw (e, leading_of_zero 64) (count_unique 0 0 (record { no_more = omega arith; no_less = omega arith }))

pub two_words : (h l : ℕ) → l < 2 ^ 64 → h < 2 ^ 64 → 0 < h → (129 - count_leading_zeros 64 h) / 2 ≡ steps (h * 2 ^ 64 + l)
two_words h l b g p =
    let t = leading_top 64 h p g in
    let j : ℕ = t.0 in
    let e : 129 - count_leading_zeros 64 h ≡ j + 64 + 2 = omega (arith, t.1) in
    let low : 2 ^ (j + 64) ≤ h * 2 ^ 64 + l = rw (pow-add 2 j 64) (over (2 ^ 64) (2 ^ j) (mul-le-mul_right (2 ^ 64) t.2)) in
    let up : h * 2 ^ 64 + l < 2 ^ suc (j + 64) = rw (← suc-add j 64, pow-add 2 (suc j) 64) (digits_lt t.3 b) in
    rw e (count_by (h * 2 ^ 64 + l) (j + 64) low up)
  where
    over : (P x : ℕ) → x * P ≤ h * P → x * P ≤ h * P + l
    over P x k = omega arith
