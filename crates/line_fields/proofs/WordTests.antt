-- Columns that hold a number pass each test of their word: below the spaces' word they are marks and digits, and the first of several digits is not
-- 0. So a word that a test turns away holds none. Assumes nothing.
-- In order: masks, by the last byte; the word of a number's columns; words that a test turns away.
use Rattle.basics.proofs.Common.{◌≡◌, ℕ, zero, suc, ◌+◌, ◌-◌, ◌*◌, ◌/◌, ◌%◌, ◌^◌, ◌<◌, ◌≤◌, List, [], ◌∷◌, ◌++◌, length, bit_and, Some, None, Option, sym, refl, ap, ◌∙◌, subst, ap₂, add-one, arith}
use Rattle.basics.proofs.Common.{length-append, ℕ_discrete, pow-succ', and_zero_l, and_zero_r, and_block, pick}
use Rattle.field.specs.Field.{field, digit_or_space, leading_digits, decimal}
use Rattle.field.proofs.Inverse.{field_bound, written_back, digit_shown, leading_decimal}
use Rattle.line_fields.specs.Words.{amount_columns, word, HoldsNone}
use Rattle.line_fields.proofs.Bytes.{lanes, lanes_last}
use Rattle.line_fields.proofs.Bits.{highest, mark}
use Rattle.line_fields.proofs.Fields.{marks_behind}

-- ---- masks, by the last byte

and_last : (c n x d : ℕ) → c < 256 → d < 256 → bit_and (x * 256 + d) (lanes c (suc n)) ≡ bit_and x (lanes c n) * 256 + bit_and d c
and_last c n x d h k = ap (bit_and (x * 256 + d)) (sym (lanes_last c n)) ∙ and_block 8 x (lanes c n) d c (omega arith) (omega arith)

-- k marks and digits y pass the tests of n bytes
pub record Passing (n k y : ℕ) : Type 0 where
  pub marks : bit_and (lanes 16 k + y) (lanes 16 n) ≡ lanes 16 k
  pub low : bit_and y (lanes 128 n) ≡ 0
  pub none_above_9 : bit_and (y + lanes 118 n) (lanes 128 n) ≡ 0
  pub within : y ≤ lanes 16 k

lanes_118_unmarked : (n : ℕ) → bit_and (lanes 118 n) (lanes 128 n) ≡ 0
unfolding lanes
lanes_118_unmarked zero = and_zero_r 0
lanes_118_unmarked (suc n) =
    ap (λ (x : ℕ). bit_and x (lanes 128 (suc n))) (sym (lanes_last 118 n)) ∙ and_last 128 n (lanes 118 n) 118 (omega arith) (omega arith)
    ∙ omega (arith, lanes_118_unmarked n, highest 118)

zero_unmarked : (n : ℕ) → bit_and (0 + lanes 118 n) (lanes 128 n) ≡ 0
zero_unmarked n = let z : 0 + lanes 118 n ≡ lanes 118 n = omega arith in ap (λ (x : ℕ). bit_and x (lanes 128 n)) z ∙ lanes_118_unmarked n

no_digit : (n : ℕ) → Passing n 0 0
unfolding lanes
no_digit n = record { marks = and_zero_l (lanes 16 n); low = and_zero_l (lanes 128 n); none_above_9 = zero_unmarked n; within = omega arith }

digit_behind : (n k y d : ℕ) → d ≤ 9 → Passing n k y → Passing (suc n) (suc k) (y * 256 + d)
digit_behind n k y d h p =
    let e : lanes 16 (suc k) + (y * 256 + d) ≡ (lanes 16 k + y) * 256 + (16 + d) = omega (arith, lanes_last 16 k) in
    let f : y * 256 + d + lanes 118 (suc n) ≡ (y + lanes 118 n) * 256 + (d + 118) = omega (arith, lanes_last 118 n) in
    record {
      marks =
          ap (λ (x : ℕ). bit_and x (lanes 16 (suc n))) e ∙ and_last 16 n (lanes 16 k + y) (16 + d) (omega arith) (omega arith)
          ∙ omega (arith, p.marks, mark (16 + d), lanes_last 16 k);
      low = and_last 128 n y d (omega arith) (omega arith) ∙ omega (arith, p.low, highest d);
      none_above_9 =
          ap (λ (x : ℕ). bit_and x (lanes 128 (suc n))) f ∙ and_last 128 n (y + lanes 118 n) (d + 118) (omega arith) (omega arith)
          ∙ omega (arith, p.none_above_9, highest (d + 118));
      within = omega (arith, p.within, lanes_last 16 k);
    }

-- ---- the word of a number's columns

word_last : (l : List ℕ) (b : ℕ) → word (l ++ (b ∷ [])) ≡ word l * 256 + b
unfolding word
word_last [] b = omega arith
word_last (a ∷ l) b =
    let n : length (l ++ (b ∷ [])) ≡ suc (length l) = length-append l (b ∷ []) ∙ add-one (length l) in
    omega (arith, word_last l b, ap (λ (k : ℕ). a * 256 ^ k) n, ap (λ (x : ℕ). a * x) (pow-succ' 256 (length l)))

blank_word : (w : ℕ) → word (leading_digits w 0) ≡ lanes 32 w
unfolding word leading_digits lanes digit_or_space pick
blank_word zero = refl
blank_word (suc w) = word_last (leading_digits w 0) 32 ∙ omega (arith, blank_word w, lanes_last 32 w)

-- n columns that are the word x: spaces, and then m + 1 digits; two bytes stand before them
pub record Spelled (n x : ℕ) : Type 0 where
  pub m : ℕ
  pub y : ℕ
  pub columns : x ≡ lanes 32 n + (lanes 16 (suc m) + y)
  pub passing : Passing (suc (suc n)) (suc m) y
  pub first : lanes 16 m ≤ y

-- one column behind others that hold spaces
lone : (n x d : ℕ) → d ≤ 9 → x ≡ lanes 32 n → Spelled (suc n) (x * 256 + (48 + d))
unfolding lanes
lone n x d h e = record {
  m = 0;
  y = 0 * 256 + d;
  columns = omega (arith, e, lanes_last 32 n, lanes_last 16 0);
  passing = digit_behind (suc (suc n)) 0 0 d h (no_digit (suc (suc n)));
  first = omega arith;
}

-- where it isn't 0, the first is not
first_digit : (n x d : ℕ) → d ≤ 9 → x ≡ lanes 32 n → 0 < d → (t : Spelled (suc n) (x * 256 + (48 + d))) × (lanes 16 t.m < t.y)
unfolding lanes lone
first_digit n x d h e k = (lone n x d h e, omega arith)

-- behind others that hold digits, of which the first is not 0
another : (n x d : ℕ) → d ≤ 9 → (s : Spelled n x) → lanes 16 s.m < s.y → (t : Spelled (suc n) (x * 256 + (48 + d))) × (lanes 16 t.m < t.y)
another n x d h s f = (
  record {
    m = suc s.m;
    y = s.y * 256 + d;
    columns = omega (arith, s.columns, lanes_last 32 n, lanes_last 16 (suc s.m));
    passing = digit_behind (suc (suc n)) (suc s.m) s.y d h s.passing;
    first = omega (arith, f, lanes_last 16 s.m);
  },
  omega (arith, f, lanes_last 16 s.m),
)

digits_word : (n v : ℕ) → 0 < v → v < 10 ^ n → (s : Spelled n (word (leading_digits n v))) × (lanes 16 s.m < s.y)
unfolding leading_digits
digits_word zero v h k = absurd (omega arith)
digits_word (suc n) v h k =
    rw (word_last (leading_digits n (v / 10)) (digit_or_space v), digit_shown v h)
    (elim (ℕ_discrete (v / 10) 0) [
      | yes z ↦ first_digit n _ (v % 10) (omega arith) (rw z (blank_word n)) (omega arith)
      | no z ↦ let s = digits_word n (v / 10) (omega arith) (omega arith) in another n _ (v % 10) (omega arith) s.0 s.1
    ])

zero_word : (n : ℕ) → Spelled (suc n) (word (decimal (suc n) 0))
unfolding decimal
zero_word n = rw (word_last (leading_digits n 0) 48) (lone n _ 0 (omega arith) (blank_word n))

number_word : (n v : ℕ) → v < 10 ^ suc n → Spelled (suc n) (word (decimal (suc n) v))
number_word n v b =
    elim (ℕ_discrete v 0) [
      | yes z ↦ subst (λ (u : ℕ). Spelled (suc n) (word (decimal (suc n) u))) (sym z) (zero_word n)
      | no z ↦
          let h : 0 < v = omega arith in
          subst (λ (l : List ℕ). Spelled (suc n) (word l)) (leading_decimal (suc n) v h) (digits_word (suc n) v h b).0
    ]

spelled : (s : List ℕ) (v : ℕ) → length s ≡ amount_columns → field s ≡ Some v → Spelled amount_columns (word s)
spelled s v h e =
    let d : s ≡ decimal amount_columns v = written_back s v e ∙ ap (λ (n : ℕ). decimal n v) h in
    let b : v < 10 ^ amount_columns = subst (λ (n : ℕ). v < 10 ^ n) h (field_bound s v e) in
    subst (λ (l : List ℕ). Spelled amount_columns (word l)) (sym d) (number_word 13 v b)

-- ---- words that a test turns away

holds_none : (w : ℕ) → (Spelled amount_columns w → ⊥) → HoldsNone w
holds_none w n s h e = go (field s) refl
  where
    go : (f : Option ℕ) → field s ≡ f → f ≡ None
    go None q = refl
    go (Some v) q = absurd (n (subst (Spelled amount_columns) e (spelled s v h q)))

-- marks that stand in a row
in_a_row : (m : ℕ) → bit_and (lanes 16 (suc m)) (lanes 16 m) ≡ lanes 16 m
unfolding lanes
in_a_row zero = and_zero_r (lanes 16 1)
in_a_row (suc m) =
    ap₂ bit_and (sym (lanes_last 16 (suc m))) (sym (lanes_last 16 m)) ∙ and_block 8 (lanes 16 (suc m)) (lanes 16 m) 16 16 (omega arith) (omega arith)
    ∙ omega (arith, in_a_row m, mark 16, lanes_last 16 m)

module _ (w : ℕ) where
  -- what is left of a word below spaces, the marks of its digits, and the digits
  abbrev held : ℕ
  held = w - lanes 32 amount_columns

  abbrev marks : ℕ
  marks = bit_and held (lanes 16 16)

  abbrev digits : ℕ
  digits = held - marks

  module _ (s : Spelled amount_columns w) where
    held_is : held ≡ lanes 16 (suc s.m) + s.y
    held_is = omega (arith, s.columns)

    marks_are : marks ≡ lanes 16 (suc s.m)
    marks_are = ap (λ (x : ℕ). bit_and x (lanes 16 16)) held_is ∙ s.passing.marks

    behind_are : marks / 256 ≡ lanes 16 s.m
    behind_are = ap (λ (x : ℕ). x / 256) marks_are ∙ marks_behind s.m

    digits_are : digits ≡ s.y
    digits_are = omega (arith, held_is, marks_are)

  pub blank : w ≤ lanes 32 amount_columns → HoldsNone w
  blank h = holds_none w (λ s. omega (arith, s.columns, lanes_last 16 s.m))

  pub marks_apart : (bit_and marks (marks / 256) ≡ marks / 256 → ⊥) → HoldsNone w
  marks_apart n = holds_none w (λ s. n (rw (behind_are s, marks_are s) (in_a_row s.m)))

  pub digits_short : digits < marks / 256 → HoldsNone w
  digits_short h = holds_none w (λ s. omega (arith, digits_are s, behind_are s, s.first))

  pub digits_unmarked : marks < digits → HoldsNone w
  digits_unmarked h = holds_none w (λ s. omega (arith, digits_are s, marks_are s, s.passing.within))

  pub digits_high : (bit_and digits (lanes 128 16) ≡ 0 → ⊥) → HoldsNone w
  digits_high n = holds_none w (λ s. n (rw (digits_are s) s.passing.low))

  pub digits_above_9 : (bit_and (digits + lanes 118 16) (lanes 128 16) ≡ 0 → ⊥) → HoldsNone w
  digits_above_9 n = holds_none w (λ s. n (rw (digits_are s) s.passing.none_above_9))

-- what each test of a word says where it fails
pub ruleset word_tests = (blank, marks_apart, digits_short, digits_unmarked, digits_high, digits_above_9)
