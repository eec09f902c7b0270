-- The number whose decimal digits the eight bytes of a word are, worked out by pairs, by fours and then whole. Assumes nothing.
use Rattle.basics.proofs.Common.{◌≡◌, ℕ, ◌+◌, ◌*◌, ◌/◌, ◌%◌, ◌^◌, ◌<◌, ◌≤◌, bit_and, ap, ◌∙◌, ap₂, div-add-mod', arith, digits_div, digits_mod, and_mask, and_block}
use Rattle.line_fields.specs.Words.{Within, number}

-- the pairs of bytes as numbers of two digits, the pairs of these as numbers of four, and those together
abbrev pub pairs_of : ℕ → ℕ
pairs_of y = bit_and (10 * (y / 256) + y) 71777214294589695

abbrev pub fours_of : ℕ → ℕ
fours_of p = bit_and (100 * (p / 65536) + p) 281470681808895

abbrev pub whole_of : ℕ → ℕ
whole_of f = bit_and (10000 * (f / 2 ^ 32) + f) 4294967295

low_byte : (a b : ℕ) → b < 256 → bit_and (a * 256 + b) 255 ≡ b
low_byte a b h = and_mask (a * 256 + b) 8 ∙ digits_mod a h

low_pair : (a b : ℕ) → b < 65536 → bit_and (a * 65536 + b) 65535 ≡ b
low_pair a b h = and_mask (a * 65536 + b) 16 ∙ digits_mod a h

-- the lower bytes of four pairs
module _ (A a B b C c D d : ℕ) (p : A * 256 + a < 65536) (q : B * 256 + b < 65536) (r : C * 256 + c < 65536) (s : D * 256 + d < 65536)
    (h : a < 256) (i : b < 256) (j : c < 256) (k : d < 256) where
  lower_bytes : bit_and ((((A * 256 + a) * 65536 + (B * 256 + b)) * 65536 + (C * 256 + c)) * 65536 + (D * 256 + d)) 71777214294589695
      ≡ ((a * 65536 + b) * 65536 + c) * 65536 + d
  lower_bytes =
      and_block 16 (((A * 256 + a) * 65536 + (B * 256 + b)) * 65536 + (C * 256 + c)) 1095233372415 (D * 256 + d) 255 s (omega arith)
      ∙ ap₂ (λ (x y : ℕ). x * 65536 + y)
      (and_block 16 ((A * 256 + a) * 65536 + (B * 256 + b)) 16711935 (C * 256 + c) 255 r (omega arith)
      ∙ ap₂ (λ (x y : ℕ). x * 65536 + y)
      (and_block 16 (A * 256 + a) 255 (B * 256 + b) 255 q (omega arith) ∙ ap₂ (λ (x y : ℕ). x * 65536 + y) (low_byte A a h) (low_byte B b i))
      (low_byte C c j))
      (low_byte D d k)

-- the lower pairs of two fours
lower_pairs : (A a B b : ℕ) → A * 65536 + a < 2 ^ 32 → B * 65536 + b < 2 ^ 32 → a < 65536 → b < 65536
    → bit_and ((A * 65536 + a) * 2 ^ 32 + (B * 65536 + b)) 281470681808895 ≡ a * 2 ^ 32 + b
lower_pairs A a B b p q h i =
    and_block 32 (A * 65536 + a) 65535 (B * 65536 + b) 65535 q (omega arith) ∙ ap₂ (λ (x y : ℕ). x * 2 ^ 32 + y) (low_pair A a h) (low_pair B b i)

module _ (a b c d e f g h : ℕ) (ha : a ≤ 9) (hb : b ≤ 9) (hc : c ≤ 9) (hd : d ≤ 9) (he : e ≤ 9) (hf : f ≤ 9) (hg : g ≤ 9) (hh : h ≤ 9) where
  abbrev eight : ℕ
  eight = (((a * 256 + b) * 65536 + (c * 256 + d)) * 65536 + (e * 256 + f)) * 65536 + (g * 256 + h)

  in_pairs : pairs_of eight ≡ (((10 * a + b) * 65536 + (10 * c + d)) * 65536 + (10 * e + f)) * 65536 + (10 * g + h)
  in_pairs =
      let z : 10 * (eight / 256) + eight
      ≡ (((a * 256 + (10 * a + b)) * 65536 + ((10 * b + c) * 256 + (10 * c + d))) * 65536 + ((10 * d + e) * 256 + (10 * e + f))) * 65536
      + ((10 * f + g) * 256 + (10 * g + h)) = omega arith in
      ap (λ (x : ℕ). bit_and x 71777214294589695) z
      ∙ lower_bytes a (10 * a + b) (10 * b + c) (10 * c + d) (10 * d + e) (10 * e + f) (10 * f + g) (10 * g + h)
      (omega arith) (omega arith) (omega arith) (omega arith) (omega arith) (omega arith) (omega arith) (omega arith)

-- numbers of two digits in pairs
module _ (p q r s : ℕ) (hp : p ≤ 99) (hq : q ≤ 99) (hr : r ≤ 99) (hs : s ≤ 99) where
  abbrev four : ℕ
  four = ((p * 65536 + q) * 65536 + r) * 65536 + s

  in_fours : fours_of four ≡ (100 * p + q) * 2 ^ 32 + (100 * r + s)
  in_fours =
      let z : 100 * (four / 65536) + four ≡ (p * 65536 + (100 * p + q)) * 2 ^ 32 + ((100 * q + r) * 65536 + (100 * r + s)) = omega arith in
      ap (λ (x : ℕ). bit_and x 281470681808895) z
      ∙ lower_pairs p (100 * p + q) (100 * q + r) (100 * r + s) (omega arith) (omega arith) (omega arith) (omega arith)

-- numbers of four digits in fours
in_all : (p q : ℕ) → 10000 * p + q < 2 ^ 32 → whole_of (p * 2 ^ 32 + q) ≡ 10000 * p + q
in_all p q h =
    let k : q < 2 ^ 32 = omega arith in
    let e : 10000 * ((p * 2 ^ 32 + q) / 2 ^ 32) + (p * 2 ^ 32 + q) ≡ p * 2 ^ 32 + (10000 * p + q) = omega (arith, digits_div p k) in
    ap (λ (x : ℕ). bit_and x 4294967295) e ∙ and_mask (p * 2 ^ 32 + (10000 * p + q)) 32 ∙ digits_mod p h

-- of eight digits
of_digits : (a b c d e f g h : ℕ) → a ≤ 9 → b ≤ 9 → c ≤ 9 → d ≤ 9 → e ≤ 9 → f ≤ 9 → g ≤ 9 → h ≤ 9
    → whole_of (fours_of (pairs_of ((((a * 256 + b) * 65536 + (c * 256 + d)) * 65536 + (e * 256 + f)) * 65536 + (g * 256 + h))))
    ≡ a * 10000000 + (b * 1000000 + (c * 100000 + (d * 10000 + (e * 1000 + (f * 100 + (g * 10 + (h * 1 + 0)))))))
of_digits a b c d e f g h ha hb hc hd he hf hg hh =
    ap (λ (x : ℕ). whole_of (fours_of x)) (in_pairs a b c d e f g h ha hb hc hd he hf hg hh)
    ∙ ap whole_of (in_fours (10 * a + b) (10 * c + d) (10 * e + f) (10 * g + h) (omega arith) (omega arith) (omega arith) (omega arith))
    ∙ in_all (100 * (10 * a + b) + (10 * c + d)) (100 * (10 * e + f) + (10 * g + h)) (omega arith)
    ∙ omega arith

-- a word from its bytes
assembled : (y a r7 b r6 c r5 d r4 e r3 f r2 g r1 : ℕ) → a * 256 ^ 7 + r7 ≡ y → b * 256 ^ 6 + r6 ≡ r7 → c * 256 ^ 5 + r5 ≡ r6 → d * 256 ^ 4 + r4 ≡ r5
    → e * 256 ^ 3 + r3 ≡ r4 → f * 256 ^ 2 + r2 ≡ r3 → g * 256 + r1 ≡ r2
    → y ≡ (((a * 256 + b) * 65536 + (c * 256 + d)) * 65536 + (e * 256 + f)) * 65536 + (g * 256 + r1 / 1)
assembled y a r7 b r6 c r5 d r4 e r3 f r2 g r1 i j k l m n o = omega arith

-- all of it, of a word whose bytes are digits
pub by_bytes : (y : ℕ) → Within 9 8 y → whole_of (fours_of (pairs_of y)) ≡ number 8 y
unfolding Within number
by_bytes y w =
    let r7 : ℕ = y % 256 ^ 7 in
    let r6 : ℕ = r7 % 256 ^ 6 in
    let r5 : ℕ = r6 % 256 ^ 5 in
    let r4 : ℕ = r5 % 256 ^ 4 in
    let r3 : ℕ = r4 % 256 ^ 3 in
    let r2 : ℕ = r3 % 256 ^ 2 in
    let r1 : ℕ = r2 % 256 in
    let s =
    assembled y (y / 256 ^ 7) r7 (r7 / 256 ^ 6) r6 (r6 / 256 ^ 5) r5 (r5 / 256 ^ 4) r4 (r4 / 256 ^ 3) r3 (r3 / 256 ^ 2) r2 (r2 / 256) r1
    (div-add-mod' y (256 ^ 7)) (div-add-mod' r7 (256 ^ 6)) (div-add-mod' r6 (256 ^ 5)) (div-add-mod' r5 (256 ^ 4)) (div-add-mod' r4 (256 ^ 3))
    (div-add-mod' r3 (256 ^ 2)) (div-add-mod' r2 256) in
    ap (λ (x : ℕ). whole_of (fours_of (pairs_of x))) s
    ∙ of_digits (y / 256 ^ 7) (r7 / 256 ^ 6) (r6 / 256 ^ 5) (r5 / 256 ^ 4) (r4 / 256 ^ 3) (r3 / 256 ^ 2) (r2 / 256) (r1 / 1)
    w.0 w.1.0 w.1.1.0 w.1.1.1.0 w.1.1.1.1.0 w.1.1.1.1.1.0 w.1.1.1.1.1.1.0 w.1.1.1.1.1.1.1.0
