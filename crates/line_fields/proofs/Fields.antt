-- Columns that are known as a word: spaces, and then the digits of a number. Assumes nothing.
-- In order: columns that hold digits; columns that hold spaces, and then digits; fourteen columns.
use Rattle.basics.proofs.Common.{◌≡◌, ℕ, zero, suc, ◌+◌, ◌-◌, ◌*◌, ◌/◌, ◌%◌, ◌^◌, ◌<◌, ◌≤◌, List, [], ◌∷◌, length, Some, sym, refl, ap, ◌∙◌, subst, mod-lt, mod-eq_of_lt, div-add-mod', arith, dec_le}
use Rattle.basics.proofs.Common.{pow-succ', pow-le-pow_right, div-eq_of_lt, digits_div, two_digits, if_eq, if_ne, if_ge}
use Rattle.field.specs.Field.{digits, field}
use Rattle.line_fields.specs.Words.{word, Bytes, Within, number, Holds}
use Rattle.line_fields.proofs.Bytes.{lanes, some, lanes_all, within_all, room, word_lt, lanes_sum, lanes_last}

-- the first of some columns, and the others
split : (a : ℕ) (us : List ℕ) (d x : ℕ) → Bytes (a ∷ us) → x < 256 ^ length us → a * 256 ^ length us + word us ≡ d * 256 ^ length us + x
    → (a ≡ d) × (word us ≡ x)
split a us d x b h e = two_digits (256 ^ length us) a (word us) d x (word_lt us (λ i. b (suc i))) h e

-- ---- columns that hold digits

-- the first one
lead : (a : ℕ) (us : List ℕ) (y : ℕ) → Bytes (a ∷ us) → word (a ∷ us) ≡ lanes 48 (suc (length us)) + y → Within 9 (suc (length us)) y
    → (a ≡ 48 + y / 256 ^ length us) × (word us ≡ lanes 48 (length us) + y % 256 ^ length us)
unfolding word lanes Within
lead a us y b e w =
    let n = length us in
    let f : a * 256 ^ n + word us ≡ (48 + y / 256 ^ n) * 256 ^ n + (lanes 48 n + y % 256 ^ n) = omega (arith, e, div-add-mod' y (256 ^ n)) in
    split a us _ _ b (room 48 9 n (y % 256 ^ n) (omega arith) (mod-lt y (some n)) w.1) f

-- one that is read after v
one : (v a : ℕ) (l : List ℕ) → 48 ≤ a → a ≤ 57 → digits v (a ∷ l) ≡ digits (10 * v + (a - 48)) l
unfolding digits
one v a l h k = if_ge _ h ∙ if_ge _ k

carried : (v d q n x : ℕ) → d ≡ q → (10 * v + d) * 10 ^ n + x ≡ v * 10 ^ suc n + (q * 10 ^ n + x)
carried v d q n x e = rw e (omega (arith, ap (λ (x : ℕ). v * x) (pow-succ' 10 n)))

-- they are read after v, to the end
digits_on : (us : List ℕ) (v y : ℕ) → Bytes us → word us ≡ lanes 48 (length us) + y → Within 9 (length us) y
    → digits v us ≡ Some (v * 10 ^ length us + number (length us) y)
unfolding digits number Within
digits_on [] v y b e w = let z : v ≡ v * 10 ^ 0 + 0 = omega arith in ap (λ (x : ℕ). Some x) z
digits_on (a ∷ us) v y b e w =
    let n = length us in
    let k = lead a us y b e w in
    one v a us (omega (arith, k.0)) (omega (arith, k.0, w.0)) ∙ digits_on us (10 * v + (a - 48)) (y % 256 ^ n) (λ i. b (suc i)) k.1 w.1
    ∙ ap (λ (x : ℕ). Some x) (carried v (a - 48) (y / 256 ^ n) n _ (omega (arith, k.0)))

-- ---- columns that hold spaces, and then digits

blank : (a : ℕ) (l : List ℕ) → a ≡ 32 → field (a ∷ l) ≡ field l
unfolding field
blank a l e = if_eq _ e

begins : (a : ℕ) (l : List ℕ) → (a ≡ 32 → ⊥) → (a ≡ 48 → ⊥) → field (a ∷ l) ≡ digits 0 (a ∷ l)
unfolding field
begins a l h k = if_ne _ h ∙ if_ne _ k

alone : (a : ℕ) → a ≡ 48 → field (a ∷ []) ≡ Some 0
unfolding field
alone a e =
    let n : a ≡ 32 → ⊥ = λ q. omega arith in
    if_ne _ n ∙ if_eq _ e

-- the first digit is not 0
top : (q r p y : ℕ) → q * p + r ≡ y → r < p → p ≤ y → 1 ≤ q
top zero r p y e h k = absurd (omega arith)
top (suc q) r p y e h k = omega arith

-- digits from the first column on
led : (a : ℕ) (us : List ℕ) (y : ℕ) → Bytes (a ∷ us) → word (a ∷ us) ≡ lanes 48 (suc (length us)) + y → 256 ^ length us ≤ y
    → Within 9 (suc (length us)) y → field (a ∷ us) ≡ Some (number (suc (length us)) y)
led a us y b e l w =
    let n = length us in
    let k = lead a us y b e w in
    let t = top (y / 256 ^ n) (y % 256 ^ n) (256 ^ n) y (div-add-mod' y (256 ^ n)) (mod-lt y (some n)) l in
    let z : 0 * 10 ^ suc n + number (suc n) y ≡ number (suc n) y = omega arith in
    begins a us (λ q. omega (arith, k.0)) (λ q. omega (arith, k.0)) ∙ digits_on (a ∷ us) 0 y b e w ∙ ap (λ (x : ℕ). Some x) z

-- the last column alone
single : (a y : ℕ) → Bytes (a ∷ []) → word (a ∷ []) ≡ lanes 48 1 + y → Within 9 1 y → field (a ∷ []) ≡ Some (number 1 y)
unfolding word lanes Within number
single a y b e w = elim (dec_le 1 y) [
  | yes l ↦ led a [] y b e l w
  | no l ↦
      let z : y ≡ 0 = omega arith in
      alone a (omega arith) ∙ ap (λ (x : ℕ). Some x) (omega arith)
]

-- above as many marks as there are digits, less one, the first digit is not 0
not_zero : (m y : ℕ) → 0 < m → lanes 16 m ≤ y → y < 256 ^ m → Within 9 m y → ⊥
not_zero m y p l h w =
    let o : 1 ≤ m = omega arith in
    omega (arith, lanes_all 16 m, within_all 9 m y h w, pow-le-pow_right {n = 256} (omega arith) o)

-- a number below 256 ^ n has no byte there
within_rest : (n y : ℕ) → y < 256 ^ n → Within 9 (suc n) y → Within 9 n y
unfolding Within
within_rest n y h w = rw (mod-eq_of_lt h) at w.1

number_rest : (n y : ℕ) → y < 256 ^ n → number (suc n) y ≡ number n y
unfolding number
number_rest n y h = rw (div-eq_of_lt h, mod-eq_of_lt h) (omega arith)

-- digits in all columns
filled : (a : ℕ) (us : List ℕ) (y : ℕ) → Bytes (a ∷ us) → word (a ∷ us) ≡ lanes 48 (suc (length us)) + y → lanes 16 (length us) ≤ y
    → Within 9 (suc (length us)) y → field (a ∷ us) ≡ Some (number (suc (length us)) y)
filled a [] y b e l w = single a y b e w
filled a (c ∷ us) y b e l w = elim (dec_le (256 ^ suc (length us)) y) [
  | yes p ↦ led a (c ∷ us) y b e p w
  | no p ↦
      let n : ℕ = suc (length us) in
      let h : y < 256 ^ n = omega arith in
      absurd (not_zero n y (omega arith) l h (within_rest n y h w))
]

spaced : (a : ℕ) (us : List ℕ) (m y : ℕ) → word (a ∷ us) ≡ lanes 32 (suc (length us)) + (lanes 16 (suc m) + y)
    → a * 256 ^ length us + word us ≡ 32 * 256 ^ length us + (lanes 32 (length us) + (lanes 16 (suc m) + y))
unfolding word lanes
spaced a us m y e = omega arith

-- spaces, and then digits in the last m + 1 columns: by their marks, and none of them is 0 but the last
pub spaces_then : (us : List ℕ) (m y : ℕ) → Bytes us → m < length us → word us ≡ lanes 32 (length us) + (lanes 16 (suc m) + y) → lanes 16 m ≤ y
    → y ≤ lanes 16 (suc m) → Within 9 (length us) y → field us ≡ Some (number (length us) y)
spaces_then [] m y b s e l h w = absurd (omega arith)
spaces_then (a ∷ us) m y b s e l h w = elim (dec_le (suc m) (length us)) [
  | yes p ↦
      let n : ℕ = length us in
      let o : 256 ^ suc m ≤ 256 ^ n = pow-le-pow_right {n = 256} (omega arith) p in
      let f : lanes 32 n + (lanes 16 (suc m) + y) < 256 ^ n = omega (arith, lanes_all 32 n, lanes_all 16 (suc m)) in
      let g : y < 256 ^ n = omega arith in
      let k = split a us 32 (lanes 32 n + (lanes 16 (suc m) + y)) b f (spaced a us m y e) in
      blank a us k.0 ∙ spaces_then us m y (λ i. b (suc i)) p k.1 l h (within_rest n y g w) ∙ ap (λ (x : ℕ). Some x) (sym (number_rest n y g))
  | no p ↦
      let z : m ≡ length us = omega arith in
      filled a us y b (omega (arith, rw z at e, lanes_sum 32 16 (suc (length us)))) (rw z at l) w
]

-- ---- fourteen columns

widened : (s : List ℕ) (w : ℕ) → length s ≡ 14 → word s ≡ lanes 32 14 + w → word (32 ∷ 32 ∷ s) ≡ lanes 32 16 + w
unfolding word lanes
widened s w h e =
    let k : length (32 ∷ s) ≡ 15 = omega arith in
    omega (arith, e, ap (λ (n : ℕ). 256 ^ n) h, ap (λ (n : ℕ). 256 ^ n) k)

two_spaces : (s : List ℕ) → field (32 ∷ 32 ∷ s) ≡ field s
two_spaces s = blank 32 (32 ∷ s) refl ∙ blank 32 s refl

bytes_behind : (a : ℕ) (s : List ℕ) → a < 256 → Bytes s → Bytes (a ∷ s)
bytes_behind a s h b zero = h
bytes_behind a s h b (suc i) = b i

-- the marks of all digits but the first
pub marks_behind : (m : ℕ) → lanes 16 (suc m) / 256 ≡ lanes 16 m
marks_behind m = ap (λ (x : ℕ). x / 256) (sym (lanes_last 16 m)) ∙ digits_div (lanes 16 m) (omega arith)

some_digit : (w y : ℕ) → lanes 32 14 < w → w ≡ lanes 32 14 + (lanes 16 0 + y) → y ≤ lanes 16 0 → ⊥
unfolding lanes
some_digit w y p e g = omega arith

-- a word above fourteen spaces by marks in its last k bytes and by digits, of which no first of several is 0 and none is without a mark
pub holds : (w k y : ℕ) → lanes 32 14 < w → k ≤ 16 → w ≡ lanes 32 14 + (lanes 16 k + y) → lanes 16 k / 256 ≤ y → y ≤ lanes 16 k → Within 9 16 y
    → Holds w (number 16 y)
holds w zero y p h e l g d s n b q = absurd (some_digit w y p e g)
holds w (suc m) y p h e l g d s n b q =
    let us : List ℕ = 32 ∷ 32 ∷ s in
    let k : length us ≡ 16 = omega arith in
    let c : Bytes us = bytes_behind 32 (32 ∷ s) (omega arith) (bytes_behind 32 s (omega arith) b) in
    let f : lanes 16 m ≤ y = rw (marks_behind m) at l in
    sym (two_spaces s)
    ∙ subst (λ (n : ℕ). m < n → word us ≡ lanes 32 n + (lanes 16 (suc m) + y) → Within 9 n y → field us ≡ Some (number n y)) k
    (λ i z w. spaces_then us m y c i z f g w) (omega arith) (widened s _ n (q ∙ e)) d
