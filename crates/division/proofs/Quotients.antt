-- Long division: how many binary digits fit a step, one step, what holds between two, and the quotient rounded up, once and twice. Assumes nothing.
use Rattle.basics.proofs.Common.{◌≡◌, ℕ, ◌+◌, ◌-◌, ◌*◌, ◌/◌, ◌%◌, ◌^◌, ◌<◌, ◌≤◌, leb, sym, ap, ◌∙◌, mul-le-mul_right, lt_of_mul-lt-mul_right, mul-le-mul_left, arith, pow_mono, pow-add, dec_le}
use Rattle.basics.proofs.Common.{suc, mul_assoc, mod-lt, div-add-mod', count_leading_zeros, least, ceil_eq, leb_same}
use native.Mathlib.Nat.{div-lt_iff_lt-mul}
use lib.Count.{leading_length}
use lib.Pow.{mod-pow-add}

-- ---- how many binary digits a step can bring down

-- w of them below the rest r fit a word
pub record Width (r w : ℕ) : Type 0 where
  pub some : 0 < w
  pub below : w < 64
  pub fits : (r + 1) * 2 ^ w ≤ 2 ^ 64

-- as many as r leaves free, of which 0 counts as 1
pub width_of : (r x : ℕ) → r ≤ x → 0 < x → x < 2 ^ 63 → Width r (count_leading_zeros 64 x)
width_of r x a p h =
    let l = leading_length 64 x (omega arith) in
    go (count_leading_zeros 64 x) l.0 l.1 l.2 l.3
  where
    some : (w m : ℕ) → w + m ≡ 64 → 2 ^ m ≤ 2 * x + 1 → Dec (1 ≤ w) → 0 < w
    some w m e g (yes l) = l
    some w m e g (no l) =
        let f : m ≡ 64 = omega arith in
        absurd (omega (arith, rw f at g))

    below : (w m : ℕ) → w + m ≡ 64 → x < 2 ^ m → Dec (1 ≤ m) → w < 64
    below w m e g (yes l) = omega arith
    below w m e g (no l) =
        let f : m ≡ 0 = omega arith in
        absurd (omega (arith, rw f at g))

    go : (w m : ℕ) → w + m ≡ 64 → x < 2 ^ m → 2 ^ m ≤ 2 * x + 1 → Width r w
    go w m e f g = record {
      some = some w m e g (dec_le 1 w);
      below = below w m e f (dec_le 1 m);
      fits = omega (arith, mul-le-mul_left (2 ^ w) f, mul-le-mul_left (2 ^ w) a, pow-add 2 w m, ap (λ (x : ℕ). 2 ^ x) e);
    }

-- and fewer do, too
pub fewer : (r w v : ℕ) → Width r w → 0 < v → v ≤ w → Width r v
fewer r w v k h l = record {
  some = h;
  below = omega (arith, k.below);
  fits = omega (arith, k.fits, mul-le-mul_left (r + 1) (pow_mono l));
}

-- ---- one step

-- the quotient of a rest and the digits below it is a digit, too
pub digit_below : (d r b x q s : ℕ) → r < d → x < b → q * d + s ≡ r * b + x → q < b
digit_below d r b x q s h k e = lt_of_mul-lt-mul_right d (omega (arith, mul-le-mul_right b h))

-- and stands behind the quotient so far
pub stepped : (d p b r x q s : ℕ) → q * d + s ≡ r * b + x → (p * b + q) * d + s ≡ (p * d + r) * b + x
stepped d p b r x q s e = omega (arith, e)

-- ---- between two steps, with m binary digits of the lower word to go

pub record Between (n low d q r m : ℕ) : Type 0 where
  pub small : r < d
  pub room : (q + 1) * 2 ^ m ≤ 2 ^ 64
  pub adds_up : (q * d + r) * 2 ^ m + low % 2 ^ m ≡ n

-- a step of fewer digits has room, too
pub narrower : (q w k : ℕ) → w ≤ k → (q + 1) * 2 ^ k ≤ 2 ^ 64 → (q + 1) * 2 ^ w ≤ 2 ^ 64
narrower q w k h r = omega (arith, mul-le-mul_left (q + 1) (pow_mono h))

brought_down : (d q r q' r' B p c t n : ℕ) → (q * d + r) * (B * p) + (c * p + t) ≡ n → q' * d + r' ≡ (q * d + r) * B + c → (q' * d + r') * p + t ≡ n
brought_down d q r q' r' B p c t n e f = omega (arith, ap (λ (x : ℕ). x * p) f)

pub step : (n low d q r k w q' r' : ℕ) → w ≤ k → Between n low d q r k →
    r' < d → q' + 1 ≤ (q + 1) * 2 ^ w → q' * d + r' ≡ (q * d + r) * 2 ^ w + low / 2 ^ (k - w) % 2 ^ w → Between n low d q' r' (k - w)
step n low d q r k w q' r' l b h g e =
    let m : ℕ = k - w in
    let s : k ≡ w + m = omega arith in
    let p : 2 ^ k ≡ 2 ^ w * 2 ^ m = ap (λ (x : ℕ). 2 ^ x) s ∙ pow-add 2 w m in
    let t : low % 2 ^ k ≡ low / 2 ^ m % 2 ^ w * 2 ^ m + low % 2 ^ m = ap (λ (x : ℕ). low % 2 ^ x) s ∙ mod-pow-add low w m in
    record {
      small = h;
      room = omega (arith, mul-le-mul_right (2 ^ m) g, b.room, ap (λ (x : ℕ). (q + 1) * x) p);
      adds_up = brought_down d q r q' r' (2 ^ w) (2 ^ m) _ _ n (sym (λ i. (q * d + r) * p i + t i) ∙ b.adds_up) e;
    }

-- the quotient by the upper word and by what is below its rest
pub two_words : (P h l d p s q r : ℕ) → p * d + s ≡ h → q * d + r ≡ s * P + l → (p * P + q) * d + r ≡ h * P + l
two_words P h l d p s q r e f = omega (arith, ap (λ (x : ℕ). x * P) e)

-- the quotient of a number that is at most d times the largest word fits a word
pub quotient_below : (n d q r : ℕ) → q * d + r ≡ n → r < d → n ≤ d * (2 ^ 64 - 1) → q < 2 ^ 64
quotient_below n d q r whole small fits = lt_of_mul-lt-mul_right d (omega arith)

-- ---- the quotient rounded up

-- where it fits a word, it is the least number whose product with d reaches n
module _ (n d q r : ℕ) (whole : q * d + r ≡ n) (small : r < d) (fits : n ≤ d * (2 ^ 64 - 1)) where
  pub up_room : 0 < r → q + 1 < 2 ^ 64
  up_room h =
      let l : q < 2 ^ 64 - 1 = lt_of_mul-lt-mul_right d (omega arith) in
      omega arith

  pub up_more : 0 < r → q + 1 ≡ least (λ q. leb n (d * q))
  up_more h = sym (ceil_eq n d (q + 1) (up_room h) (omega arith) (omega arith))

  pub up_exact : r ≡ 0 → q ≡ least (λ q. leb n (d * q))
  up_exact h = sym (ceil_eq n d q (quotient_below n d q r whole small fits) (omega arith) (omega arith))

-- ---- rounded up twice, over any two divisors

module _ (n d : ℕ) (positive : 0 < d) where
  -- the quotient rounded up is at most m just where n is at most d × m
  pub up_most : (m : ℕ) → n ≤ d * m → (n + (d - 1)) / d ≤ m
  up_most m h =
      let l : (n + (d - 1)) / d < suc m = (div-lt_iff_lt-mul {k = d} {x = n + (d - 1)} {y = suc m} positive).1 (omega arith) in
      omega arith

  up_reaches : (m : ℕ) → (n + (d - 1)) / d ≤ m → n ≤ d * m
  up_reaches m h = omega (arith, mul-le-mul_left d h, div-add-mod' (n + (d - 1)) d, mod-lt (n + (d - 1)) positive)

  -- rounded up by d and then by e is rounded up by d × e
  pub up_twice : (e : ℕ) → least (λ q. leb ((n + (d - 1)) / d) (e * q)) ≡ least (λ q. leb n (d * e * q))
  up_twice e = λ i. least (λ q. same q i)
    where
      same : (q : ℕ) → leb ((n + (d - 1)) / d) (e * q) ≡ leb n (d * e * q)
      same q = leb_same _ _ n (d * (e * q)) (up_reaches (e * q)) (up_most (e * q)) ∙ ap (leb n) (sym (mul_assoc d e q))
