-- The bytes of a word, its digits in base 256: columns that all hold the same, bytes within bounds, and how large they are. Assumes nothing.
use Rattle.basics.proofs.Common.{◌≡◌, ℕ, zero, suc, ◌+◌, ◌*◌, ◌/◌, ◌%◌, ◌^◌, ◌<◌, ◌≤◌, List, [], ◌∷◌, length, sym, ap, ◌∙◌, subst, mul-le-mul_right, mod-lt, suc-add, div-add-mod', zero-add, arith}
use Rattle.basics.proofs.Common.{pow-add, pow-succ', one-le-pow, digits_lt, digits_div, digits_mod}
use native.Mathlib.Nat.{div-lt_iff_lt-mul}
use Rattle.line_fields.specs.Words.{word, Bytes, Within, number}

-- n columns that all hold c
unfoldable pub lanes : ℕ → ℕ → ℕ
lanes c zero = 0
lanes c (suc n) = c * 256 ^ n + lanes c n

pub some : (n : ℕ) → 0 < 256 ^ n
some n = one-le-pow n 256 (omega arith)

-- ---- sizes

pub lanes_all : (c n : ℕ) → 255 * lanes c n + c ≡ c * 256 ^ n
unfolding lanes
lanes_all c zero = omega arith
lanes_all c (suc n) = omega (arith, lanes_all c n, ap (λ (x : ℕ). c * x) (pow-succ' 256 n))

pub within_all : (b n y : ℕ) → y < 256 ^ n → Within b n y → 255 * y + b ≤ b * 256 ^ n
unfolding Within
within_all b zero y h w = omega arith
within_all b (suc n) y h w =
    let i = within_all b n (y % 256 ^ n) (mod-lt y (some n)) w.1 in
    omega (arith, i, div-add-mod' y (256 ^ n), mul-le-mul_right (256 ^ n) w.0, ap (λ (x : ℕ). b * x) (pow-succ' 256 n))

-- columns that hold c, and what is added to them, within b
pub room : (c b n y : ℕ) → c + b < 255 → y < 256 ^ n → Within b n y → lanes c n + y < 256 ^ n
room c b n y k h w = omega (arith, lanes_all c n, within_all b n y h w, mul-le-mul_right (256 ^ n) k, some n)

pub lanes_lt : (c n : ℕ) → c < 255 → lanes c n < 256 ^ n
lanes_lt c n h = omega (arith, lanes_all c n, mul-le-mul_right (256 ^ n) h, some n)

pub top_lt : (n y : ℕ) → y < 256 ^ suc n → y / 256 ^ n < 256
top_lt n y h = (div-lt_iff_lt-mul (some n)).1 (omega (arith, pow-succ' 256 n))

pub word_lt : (us : List ℕ) → Bytes us → word us < 256 ^ length us
unfolding word
word_lt [] b = omega arith
word_lt (a ∷ us) b =
    subst (λ (x : ℕ). a * 256 ^ length us + word us < x) (sym (pow-succ' 256 (length us))) (digits_lt (b 0) (word_lt us (λ i. b (suc i))))

-- ---- sums and parts

pub lanes_sum : (c d n : ℕ) → lanes c n + lanes d n ≡ lanes (c + d) n
unfolding lanes
lanes_sum c d zero = omega arith
lanes_sum c d (suc n) = omega (arith, lanes_sum c d n)

-- the last of them
pub lanes_last : (c n : ℕ) → lanes c n * 256 + c ≡ lanes c (suc n)
unfolding lanes
lanes_last c zero = omega arith
lanes_last c (suc n) = omega (arith, lanes_last c n, ap (λ (x : ℕ). c * x) (pow-succ' 256 n))

-- the upper n bytes of a number and its lower k are within bounds where all are, and its number is that of both
module _ (k l : ℕ) (h : l < 256 ^ k) where
  -- the first byte and those behind it
  cut : (n q r : ℕ) → r < 256 ^ n → q * 256 ^ (n + k) + (r * 256 ^ k + l) ≡ (q * 256 ^ n + r) * 256 ^ k + l
  cut n q r g = omega (arith, ap (λ (x : ℕ). q * x) (pow-add 256 n k))

  below : (n r : ℕ) → r < 256 ^ n → r * 256 ^ k + l < 256 ^ (n + k)
  below n r g = subst (λ (x : ℕ). r * 256 ^ k + l < x) (sym (pow-add 256 n k)) (digits_lt g h)

  module _ (n u : ℕ) (g : u < 256 ^ suc n) where
    abbrev first : ℕ
    first = u / 256 ^ n

    abbrev rest : ℕ
    rest = u % 256 ^ n

    all : first * 256 ^ (n + k) + (rest * 256 ^ k + l) ≡ u * 256 ^ k + l
    all = cut n first rest (mod-lt u (some n)) ∙ ap (λ (x : ℕ). x * 256 ^ k + l) (div-add-mod' u (256 ^ n))

    first_is : (u * 256 ^ k + l) / 256 ^ (n + k) ≡ first
    first_is = ap (λ (x : ℕ). x / 256 ^ (n + k)) (sym all) ∙ digits_div first (below n rest (mod-lt u (some n)))

    rest_is : (u * 256 ^ k + l) % 256 ^ (n + k) ≡ rest * 256 ^ k + l
    rest_is = ap (λ (x : ℕ). x % 256 ^ (n + k)) (sym all) ∙ digits_mod first (below n rest (mod-lt u (some n)))

  lone : (u : ℕ) → u < 256 ^ 0 → u * 256 ^ k + l ≡ l
  lone u g = let z : u ≡ 0 = omega arith in rw z (omega arith)

  pub within_parts : (b n u : ℕ) → u < 256 ^ n → Within b (n + k) (u * 256 ^ k + l) → Within b n u × Within b k l
  unfolding Within
  within_parts b zero u g w = (tt, rw (lone u g, zero-add) at w)
  within_parts b (suc n) u g w =
      let w : Within b (suc (n + k)) (u * 256 ^ k + l) = rw suc-add at w in
      let i = within_parts b n (u % 256 ^ n) (mod-lt u (some n)) (rw (rest_is n u g) at w.1) in
      ((rw (first_is n u g) at w.0, i.0), i.1)

  pub number_parts : (n u : ℕ) → u < 256 ^ n → number (n + k) (u * 256 ^ k + l) ≡ number n u * 10 ^ k + number k l
  unfolding number
  number_parts zero u g = rw (lone u g, zero-add) (omega arith)
  number_parts (suc n) u g =
      rw (suc-add, first_is n u g, rest_is n u g, number_parts n (u % 256 ^ n) (mod-lt u (some n)))
      (omega (arith, ap (λ (x : ℕ). u / 256 ^ n * x) (pow-add 10 n k)))

pub number_lt : (n y : ℕ) → Within 9 n y → number n y < 10 ^ n
unfolding Within number
number_lt zero y w = omega arith
number_lt (suc n) y w =
    let t : y / 256 ^ n < 10 = omega (arith, w.0) in
    subst (λ (x : ℕ). y / 256 ^ n * 10 ^ n + number n (y % 256 ^ n) < x) (sym (pow-succ' 10 n)) (digits_lt t (number_lt n (y % 256 ^ n) w.1))
