-- A window of two words: a radicand is moved to two binary digits below its top, and two at a time are brought down from there. Assumes
-- nothing.
use Rattle.basics.proofs.Common.{◌≡◌, ℕ, zero, suc, ◌+◌, ◌-◌, ◌*◌, ◌/◌, ◌%◌, ◌^◌, ◌<◌, ◌≤◌, sym, ap, ◌∙◌, subst, mod-lt, mod-eq_of_lt, lt_of_mul-lt-mul_right, mul-le-mul_left, mul-lt-mul_of_pos_right}
use Rattle.basics.proofs.Common.{div-add-mod', arith, pow_pos, pow-add, pow-succ', digits_mod, two_digits}
use lib.Arith.{mod-mul}
use Rattle.root.proofs.Lengths.{four}

pub pos4 : (k : ℕ) → 0 < 4 ^ k
pos4 k = subst (λ (x : ℕ). 0 < x) (sym (four k)) (pow_pos (2 * k))

-- a number of k digits in base 4, moved up by the other z of 63, fits two words without their two upper binary digits
pub start_fits : (n k z : ℕ) → n < 4 ^ k → k + z ≡ 63 → n * 4 ^ z < 2 ^ 126
start_fits n k z h e = subst (λ (x : ℕ). n * 4 ^ z < x) (sym (pow-add 4 k z) ∙ ap (λ (j : ℕ). 4 ^ j) e) (mul-lt-mul_of_pos_right h (pos4 z))

-- w holds the last m + 1 digits of n in base 4 at its top, below 2^126: what leaves there is the first of them, and r then holds the last m
pub digits_brought_down : (n m z w q r : ℕ) → suc m + z ≡ 63 → w ≡ n % 4 ^ suc m * 4 ^ z → r < 2 ^ 126 → r + q * 2 ^ 126 ≡ 4 * w →
    (q ≡ n / 4 ^ m % 4) × (r ≡ n % 4 ^ m * 4 ^ suc z)
digits_brought_down n m z w q r places holds h e =
    let d : ℕ = n / 4 ^ m % 4 in
    let t : ℕ = n % 4 ^ m in
    let C : ℕ = 4 ^ suc z in
    let all : m + suc z ≡ 63 = omega (arith, places) in
    let N : 4 ^ m * C ≡ 2 ^ 126 = sym (pow-add 4 m (suc z)) ∙ ap (λ (k : ℕ). 4 ^ k) all in
    let u : n % 4 ^ suc m ≡ d * 4 ^ m + t = ap (λ (x : ℕ). n % x) (pow-succ' 4 m) ∙ mod-mul n {m = 4} {c = 4 ^ m} (omega arith) (pos4 m) in
    let f : w ≡ (d * 4 ^ m + t) * 4 ^ z = holds ∙ ap (λ (x : ℕ). x * 4 ^ z) u in
    let l : t * C < 2 ^ 126 = start_fits t m (suc z) (mod-lt n (pos4 m)) all in
    two_digits (2 ^ 126) q r d (t * C) h l (shifted (2 ^ 126) q r w d (4 ^ m) t (4 ^ z) C (pow-succ' 4 z) N e f)
  where
    shifted : (N q r w d A t B C : ℕ) → C ≡ 4 * B → A * C ≡ N → r + q * N ≡ 4 * w → w ≡ (d * A + t) * B → q * N + r ≡ d * N + t * C
    shifted N q r w d A t B C c a e f = omega (arith, ap (λ (x : ℕ). d * x) a, ap (λ (x : ℕ). t * x) c, ap (λ (x : ℕ). d * A * x) c)

-- moved up by 64 or more: the upper word is 0
far : (P B h l : ℕ) → 0 < P → 0 < B → (h * P + l) * (P * B) < P * P → l * B % P * P + 0 ≡ (h * P + l) * (P * B)
far P B h l p b k =
    let s : (h * P + l) * B < P = lt_of_mul-lt-mul_right P (omega arith) in
    let g : h * P * 1 ≤ h * P * B = mul-le-mul_left (h * P) b in
    let one : h < 1 = lt_of_mul-lt-mul_right P (omega arith) in
    let e : h ≡ 0 = omega arith in
    rest h e s
  where
    rest : (h : ℕ) → h ≡ 0 → (h * P + l) * B < P → l * B % P * P + 0 ≡ (h * P + l) * (P * B)
    rest zero e s =
        let m : l * B % P ≡ l * B = mod-eq_of_lt (omega arith) in
        omega (arith, ap (λ (x : ℕ). x * P) m)
    rest (suc h) e s = absurd (omega arith)

-- moved up by less, across the two words
module _ (P B C h l : ℕ) (c : 0 < C) (b : 0 < B) (e : B * C ≡ P) (k : (h * P + l) * B < P * P) where
  split : l * B ≡ l / C * P + l % C * B
  split = ap (λ (x : ℕ). x * B) (sym (div-add-mod' l C)) ∙ regroup (l / C) (l % C)
    where
      regroup : (q t : ℕ) → (q * C + t) * B ≡ q * P + t * B
      regroup q t = omega (arith, ap (λ (x : ℕ). q * x) e)

  rest_lt : l % C * B < P
  rest_lt = subst (λ (x : ℕ). l % C * B < x) e (omega (arith, mul-lt-mul_of_pos_right (mod-lt l c) b))

  high_lt : h * B + l / C < P
  high_lt = lt_of_mul-lt-mul_right P (omega (arith, split))

  near : (h * B % P + l / C) * P + l * B % P ≡ (h * P + l) * B
  near =
      let g = high_lt in
      let m : h * B % P ≡ h * B = mod-eq_of_lt (omega arith) in
      let w : l * B % P ≡ l % C * B = ap (λ (x : ℕ). x % P) split ∙ digits_mod (l / C) rest_lt in
      omega (arith, ap (λ (x : ℕ). x * P) m, split)

-- a power of 4 as a power of 2 that is written in another way
four_as : (z k : ℕ) → 2 * z ≡ k → 4 ^ z ≡ 2 ^ k
four_as z k e = four z ∙ ap (λ (x : ℕ). 2 ^ x) e

-- a number of k digits in base 4 is moved up by a word and b binary digits more: the lower word alone is left
pub far_moved : (h l k b : ℕ) → 2 * (63 - k) ≡ 64 + b → (h * 2 ^ 64 + l) * 4 ^ (63 - k) < 2 ^ 128 →
    l * 2 ^ b % 2 ^ 64 * 2 ^ 64 + 0 ≡ (h * 2 ^ 64 + l) * 4 ^ (63 - k)
far_moved h l k b e fits = grind (arith, four_as, pow-add, far, pow_pos)

-- or by b alone: the lower word's upper digits, all but its last c, cross
module _ (h l k b c : ℕ) (all : 2 * (63 - k) ≡ b) (word : b + c ≡ 64) (fits : (h * 2 ^ 64 + l) * 4 ^ (63 - k) < 2 ^ 128) where
  power : 4 ^ (63 - k) ≡ 2 ^ b
  power = four_as (63 - k) b all

  crossed : 2 ^ b * 2 ^ c ≡ 2 ^ 64
  crossed = sym (pow-add 2 b c) ∙ ap (λ (x : ℕ). 2 ^ x) word

  pub near_room : h * 2 ^ b % 2 ^ 64 + l / 2 ^ c < 2 ^ 64
  near_room = omega (arith, high_lt (2 ^ 64) (2 ^ b) (2 ^ c) h l (pow_pos c) (pow_pos b) crossed (rw power at fits))

  pub near_moved : (h * 2 ^ b % 2 ^ 64 + l / 2 ^ c) * 2 ^ 64 + l * 2 ^ b % 2 ^ 64 ≡ (h * 2 ^ 64 + l) * 4 ^ (63 - k)
  near_moved = rw power (near (2 ^ 64) (2 ^ b) (2 ^ c) h l (pow_pos c) (pow_pos b) crossed (rw power at fits))
