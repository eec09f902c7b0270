-- Masks over the bytes of a word: that no byte reaches its upper half, and the marks of those that hold a digit. Assumes nothing.
use Rattle.basics.proofs.Common.{◌≡◌, ℕ, zero, suc, ◌+◌, ◌*◌, ◌/◌, ◌%◌, ◌^◌, ◌<◌, ◌≤◌, bit_and, sym, refl, ap, ◌∙◌, subst, ap₂, lt_of_le_of_lt, mod-lt, div-add-mod', arith, pow_pos, pow-add}
use Rattle.basics.proofs.Common.{pow-succ', digits_div, and_zero_l, and_zero_r, and_mask, and_block, two_digits}
use lib.Bits.{and_le_r}
use Rattle.line_fields.specs.Words.{Within}
use Rattle.line_fields.proofs.Bytes.{lanes, some, room, lanes_lt, top_lt, lanes_last}

-- 256 ^ n as a power of 2
eights : (n : ℕ) → 256 ^ n ≡ 2 ^ (8 * n)
eights zero = refl
eights (suc n) =
    let e : 8 * suc n ≡ 8 + 8 * n = omega arith in
    rw (e, pow-succ' 256 n, eights n, pow-add 2 8 (8 * n))

lane_and : (n q c r l : ℕ) → r < 256 ^ n → l < 256 ^ n → bit_and (q * 256 ^ n + r) (c * 256 ^ n + l) ≡ bit_and q c * 256 ^ n + bit_and r l
lane_and n q c r l = rw (eights n) (and_block (8 * n) q c r l)

both_zero : (a p r : ℕ) → 0 < p → a * p + r ≡ 0 → (a ≡ 0) × (r ≡ 0)
both_zero zero p r h e = (refl, omega arith)
both_zero (suc a) p r h e = absurd (omega arith)

-- ---- digits

-- the bit of 2 ^ n in a number
bit_of : (n b : ℕ) → bit_and b (2 ^ n) ≡ 2 ^ n * (b / 2 ^ n % 2)
bit_of n b =
    let s : b / 2 ^ n * 2 ^ n + b % 2 ^ n ≡ b = div-add-mod' b (2 ^ n) in
    let o : 1 * 2 ^ n + 0 ≡ 2 ^ n = omega arith in
    let k : bit_and (b / 2 ^ n * 2 ^ n + b % 2 ^ n) (1 * 2 ^ n + 0) ≡ bit_and (b / 2 ^ n) 1 * 2 ^ n + bit_and (b % 2 ^ n) 0 =
    and_block n (b / 2 ^ n) 1 (b % 2 ^ n) 0 (mod-lt b (pow_pos n)) (pow_pos n) in
    let m : bit_and b (2 ^ n) ≡ bit_and (b / 2 ^ n) 1 * 2 ^ n + bit_and (b % 2 ^ n) 0 = rw (s, o) at k in
    omega (arith, m, ap (λ (x : ℕ). x * 2 ^ n) (and_mask (b / 2 ^ n) 1), and_zero_r (b % 2 ^ n))

-- a byte's highest bit
pub highest : (b : ℕ) → bit_and b 128 ≡ 128 * (b / 128 % 2)
highest b = bit_of 7 b

half : (b : ℕ) → b < 256 → bit_and b 128 ≡ 0 → b < 128
half b h e = omega (arith, e, highest b)

-- no byte reaches its upper half
pub lower_halves : (n y : ℕ) → y < 256 ^ n → bit_and y (lanes 128 n) ≡ 0 → Within 127 n y
unfolding Within lanes
lower_halves zero y h e = tt
lower_halves (suc n) y h e =
    let q : ℕ = y / 256 ^ n in
    let r : ℕ = y % 256 ^ n in
    let k : bit_and q 128 * 256 ^ n + bit_and r (lanes 128 n) ≡ 0 =
    sym (lane_and n q 128 r (lanes 128 n) (mod-lt y (some n)) (lanes_lt 128 n (omega arith)))
    ∙ ap (λ (x : ℕ). bit_and x (128 * 256 ^ n + lanes 128 n)) (div-add-mod' y (256 ^ n)) ∙ e in
    let z = both_zero _ _ _ (some n) k in
    let t = half q (top_lt n y h) z.0 in
    (omega arith, lower_halves n r (mod-lt y (some n)) z.1)

-- nor does it with 118 added
pub digits_within : (n y : ℕ) → y < 256 ^ n → Within 127 n y → bit_and (y + lanes 118 n) (lanes 128 n) ≡ 0 → Within 9 n y
unfolding Within lanes
digits_within zero y h w e = tt
digits_within (suc n) y h w e =
    let q : ℕ = y / 256 ^ n in
    let r : ℕ = y % 256 ^ n in
    let fit : lanes 118 n + r < 256 ^ n = room 118 127 n r (omega arith) (mod-lt y (some n)) w.1 in
    let s : (q + 118) * 256 ^ n + (r + lanes 118 n) ≡ y + (118 * 256 ^ n + lanes 118 n) = omega (arith, div-add-mod' y (256 ^ n)) in
    let k : bit_and (q + 118) 128 * 256 ^ n + bit_and (r + lanes 118 n) (lanes 128 n) ≡ 0 =
    sym (lane_and n (q + 118) 128 (r + lanes 118 n) (lanes 128 n) (omega arith) (lanes_lt 128 n (omega arith)))
    ∙ ap (λ (x : ℕ). bit_and x (128 * 256 ^ n + lanes 128 n)) s ∙ e in
    let z = both_zero _ _ _ (some n) k in
    let t = half (q + 118) (omega (arith, w.0)) z.0 in
    (omega arith, digits_within n r (mod-lt y (some n)) w.1 z.1)

-- ---- marks

-- a byte's mark is 16 or 0
pub mark : (b : ℕ) → bit_and b 16 ≡ 16 * (b / 16 % 2)
mark b = bit_of 4 b

-- the marks of the bytes before the last, and the last one's
marks_last : (n x : ℕ) → bit_and x (lanes 16 (suc n)) ≡ bit_and (x / 256) (lanes 16 n) * 256 + bit_and (x % 256) 16
marks_last n x =
    ap₂ bit_and (sym (div-add-mod' x 256)) (sym (lanes_last 16 n)) ∙ and_block 8 (x / 256) (lanes 16 n) (x % 256) 16 (omega arith) (omega arith)

-- where each mark has another behind it, so has each of those before the last, and the last has one where any stands before it
behind : (d l : ℕ) → l < 256 → bit_and (d * 256 + l) ((d * 256 + l) / 256) ≡ (d * 256 + l) / 256
    → (bit_and d (d / 256) ≡ d / 256) × (bit_and l (d % 256) ≡ d % 256)
behind d l h e =
    let q : ℕ = d / 256 in
    let r : ℕ = d % 256 in
    let s : q * 256 + r ≡ d = div-add-mod' d 256 in
    let k : bit_and (d * 256 + l) (q * 256 + r) ≡ q * 256 + r = rw s (rw (digits_div d h) at e) in
    two_digits 256 _ _ _ _ (lt_of_le_of_lt (and_le_r l r) (omega arith)) (omega arith) (sym (and_block 8 d q l r h (omega arith)) ∙ k)

-- the last k bytes have marks, and no others
pub record Run (n d : ℕ) : Type 0 where
  pub k : ℕ
  pub within : k ≤ n
  pub marks : d ≡ lanes 16 k

no_run : (k : ℕ) → lanes 16 k % 256 ≡ 0 → k ≡ 0
no_run zero e = refl
no_run (suc k) e = absurd (omega (arith, ap (λ (x : ℕ). x % 256) (lanes_last 16 k) ∙ e))

nothing : (d l k : ℕ) → k ≡ 0 → d ≡ lanes 16 k → l ≡ 0 → d * 256 + l ≡ lanes 16 0
unfolding lanes
nothing d l k z g e = let f : d ≡ 0 = rw z at g in omega arith

last : (n d l m : ℕ) → l ≡ 16 * m → m < 2 → bit_and l (d % 256) ≡ d % 256 → Run n d → Run (suc n) (d * 256 + l)
last n d l zero e h p r =
    let z : d % 256 ≡ 0 = sym p ∙ ap (λ (x : ℕ). bit_and x (d % 256)) e ∙ and_zero_l (d % 256) in
    let k : r.k ≡ 0 = no_run r.k (rw r.marks at z) in
    record { k = 0; within = omega arith; marks = nothing d l r.k k r.marks e }
last n d l (suc m) e h p r = record { k = suc r.k; within = omega (arith, r.within); marks = omega (arith, r.marks, lanes_last 16 r.k) }

pub runs : (n x : ℕ) → bit_and (bit_and x (lanes 16 n)) (bit_and x (lanes 16 n) / 256) ≡ bit_and x (lanes 16 n) / 256 → Run n (bit_and x (lanes 16 n))
unfolding lanes
runs zero x e = record { k = 0; within = omega arith; marks = and_zero_r x }
runs (suc n) x e =
    let d = bit_and (x / 256) (lanes 16 n) in
    let l = bit_and (x % 256) 16 in
    let p = behind d l (lt_of_le_of_lt (and_le_r (x % 256) 16) (omega arith)) (rw (marks_last n x) at e) in
    subst (Run (suc n)) (sym (marks_last n x)) (last n d l (x % 256 / 16 % 2) (mark (x % 256)) (omega arith) p.1 (runs n (x / 256) p.0))
