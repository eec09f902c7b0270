-- A line that its rules let pass, in the other sort of sheet: its letters are the other ones, and an amount in cents is one in thousands of dollars
-- with five zeros behind it, so that the columns of each are those of the other, moved by five. Assumes nothing.
-- In order: zeros behind a number, and spaces before it; a number's last two columns; an amount; the scalar's line; a line.
use Rattle.basics.proofs.Common.{◌≡◌, ℕ, zero, suc, ◌+◌, ◌*◌, ◌/◌, ◌%◌, ◌^◌, ◌<◌, ◌≤◌, Bool, true, false, eqb, List, [], ◌∷◌, ◌++◌, map, length, take, drop, replicate, Ok, sym, refl, ap, ◌∙◌}
use Rattle.basics.proofs.Common.{append-nil, lt_of_lt_of_le, mul_assoc, zero-add, arith, take_at, eq-eqb, ne_eqb, ℕ_discrete, dec_le, pow-le-pow_right, append_snoc, pick, if_true, if_false, if_eq}
use Rattle.basics.proofs.Common.{if_ne, if_lt, if_ge, is_values, values}
use native.Mathlib.Numerals.{unary_clauses}
use Rattle.field.specs.Field.{digit_or_space, leading_digits, decimal}
use Rattle.field.proofs.WrittenColumns.{length_decimal}
use Rattle.field.proofs.Inverse.{digit_shown, leading_decimal, space_decimal}
use Rattle.amount.specs.Amount.{limit}
use Rattle.codes.specs.Codes.{scalar_class, row_of}
use Rattle.codes.specs.declared.Code.{Code}
use Rattle.codes.proofs.Table.{codes_same, rows_same}
use Rattle.key_columns.specs.Key.{key}
use Rattle.layout.specs.Columns.{sheet_line_bytes, lettered}
use Rattle.layout.specs.declared.Numbers.{Numbers}
use Rattle.sheet_line.specs.Line.{numbers_of}
use Rattle.sheet_line.specs.Rules.{row_for, is_scalar, AcceptedLine}
use Rattle.sheet_line.specs.declared.Entry.{Entry}
use Rattle.scaled_line.specs.Scale.{to_small, letters_in, parse_in, print_in}
use Rattle.scaled_line.specs.Amounts.{thousand_dollars, convertible, in_other, amount_of, rescaled}
use Rattle.scaled_line.specs.Other.{other_line}
use Rattle.line_fields.specs.Words.{amount_columns}
use Rattle.scaled_line.specs.Moved.{other_case, zeros, keeps_amounts, holds_zero, shifted, moved_amount, moved_line}
use Rattle.scaled_line.specs.declared.Scale.{Scale, TheVariants.Cents, TheVariants.Thousands}
use Rattle.scaled_line.proofs.SmallLetters.{three_in, letters_turned}
use Rattle.scaled_line.proofs.ScaledAmounts.{Fits, other_none, Convertible, passes_convertible}
use Rattle.scaled_line.proofs.Lines.{line_accepted, line_printed}

-- ---- zeros behind a number, and spaces before it

-- a number ten times as large has a zero behind its digits
tenfold : (w y : ℕ) → 0 < y → decimal (suc w) (10 * y) ≡ decimal w y ++ (48 ∷ [])
unfolding decimal
tenfold w y h =
    let q : 10 * y / 10 ≡ y = omega arith in
    let r : 48 + 10 * y % 10 ≡ 48 = omega arith in
    (λ i. leading_digits w (q i) ++ (r i ∷ [])) ∙ ap (λ (l : List ℕ). l ++ (48 ∷ [])) (leading_decimal w y h)

-- .. and n zeros after n such steps
zeros_behind : (n w y : ℕ) → 0 < y → decimal (n + w) (10 ^ n * y) ≡ decimal w y ++ replicate n 48
zeros_behind zero w y h = let e : 1 * y ≡ y = omega arith in rw (zero-add w, e, append-nil) refl
zeros_behind (suc n) w y h =
    let e : suc n + w ≡ n + suc w = omega arith in
    let p : 10 ^ suc n * y ≡ 10 ^ n * (10 * y) = simp unary_clauses (mul_assoc (10 ^ n) 10 y) in
    (λ i. decimal (e i) (p i)) ∙ zeros_behind n (suc w) (10 * y) (omega arith)
    ∙ ap (λ (l : List ℕ). l ++ replicate n 48) (tenfold w y h) ∙ append_snoc (decimal w y) 48 (replicate n 48)

-- in n columns more there are n spaces before it
spaces_before : (n w y : ℕ) → 0 < w → y < 10 ^ w → decimal (n + w) y ≡ replicate n 32 ++ decimal w y
spaces_before zero w y p h = rw (zero-add w) refl
spaces_before (suc n) w y p h =
    let e : suc n + w ≡ suc (n + w) = omega arith in
    let b : y < 10 ^ (n + w) = lt_of_lt_of_le h (pow-le-pow_right (omega arith) (omega arith)) in
    ap (λ (k : ℕ). decimal k y) e ∙ space_decimal (n + w) y (omega arith) b ∙ ap (λ (l : List ℕ). 32 ∷ l) (spaces_before n w y p h)

-- ---- a number's last two columns

-- a space and a digit there tell the number of that digit
last_two : (k v : ℕ) → k < 10 → pick (eqb (digit_or_space (v / 10)) 32) (eqb (48 + v % 10) (48 + k)) false ≡ eqb v k
unfolding digit_or_space pick
last_two k v h =
    elim (dec_le 1 (v / 10)) [
      | yes l ↦
          let a : digit_or_space (v / 10) ≡ 32 → ⊥ = λ e. omega (arith, sym (digit_shown (v / 10) l) ∙ e) in
          let b : v ≡ k → ⊥ = λ e. omega arith in
          if_ne _ a ∙ sym (ne_eqb _ _ b)
      | no l ↦
          let z : v / 10 ≡ 0 = omega arith in
          rw z (elim (ℕ_discrete v k) [
            | yes e ↦ let m : 48 + v % 10 ≡ 48 + k = omega arith in eq-eqb _ _ m ∙ sym (eq-eqb _ _ e)
            | no n ↦ let m : 48 + v % 10 ≡ 48 + k → ⊥ = λ e. n (omega arith) in ne_eqb _ _ m ∙ sym (ne_eqb _ _ n)
          ])
    ]

-- ---- an amount

-- an amount above 0, moved, is the amount of the other sort
shifted_is : (d : Scale) (v : ℕ) → 0 < v → v ≤ limit → Fits d v → shifted d (decimal amount_columns v) ≡ decimal amount_columns (in_other d v)
shifted_is Cents v p h f =
    let y = v / thousand_dollars in
    let e : v ≡ 10 ^ zeros * y = omega arith in
    let k : 0 < y = omega arith in
    let b : y < 10 ^ 9 = omega arith in
    ap (λ (l : List ℕ). replicate zeros 32 ++ take 9 l) (ap (decimal 14) e ∙ zeros_behind zeros 9 y k)
    ∙ ap (λ (l : List ℕ). replicate zeros 32 ++ l) (take_at (decimal 9 y) (replicate zeros 48) 9 (length_decimal 9 y))
    ∙ sym (spaces_before zeros 9 y (omega arith) b)
shifted_is Thousands v p h f =
    let e : 10 ^ zeros * v ≡ v * thousand_dollars = omega arith in
    let b : v < 10 ^ 9 = omega arith in
    ap (λ (l : List ℕ). drop zeros l ++ replicate zeros 48) (spaces_before zeros 9 v (omega arith) b)
    ∙ sym (zeros_behind zeros 9 v p) ∙ ap (decimal 14) e

-- the columns of an amount hold 0 exactly where it is 0
zero_shown : (v : ℕ) → holds_zero (decimal amount_columns v) ≡ eqb v 0
unfolding holds_zero decimal leading_digits
zero_shown v = last_two 0 v (omega arith)

amount_moved : (d : Scale) (kept : Bool) (v : ℕ) → v ≤ limit → (kept ≡ false → Fits d v)
    → moved_amount d kept (decimal amount_columns v) ≡ decimal amount_columns (pick kept v (in_other d v))
unfolding moved_amount pick
amount_moved d true v h f = refl
amount_moved d false v h f =
    elim (ℕ_discrete v 0) [
      | yes z ↦ if_true _ (zero_shown v ∙ eq-eqb _ _ z) ∙ ap (decimal amount_columns) (z ∙ sym (other_none d v z))
      | no n ↦ if_false _ (zero_shown v ∙ ne_eqb _ _ n) ∙ shifted_is d v (omega (arith, n)) h (f refl)
    ]

-- ---- the scalar's line

-- the columns of a class show the scalar's
abbrev shows_scalar : ℕ → Bool
shows_scalar c = pick (eqb (digit_or_space (c / 10)) 32) (eqb (48 + c % 10) (48 + scalar_class)) false

-- the bytes of a line that has a code tell it: the letters whether the code's rows have a scalar, and the columns of the class which
scalar_by_bytes : (d : Scale) (n : Numbers) (k : Code) (b : ℕ)
    → keeps_amounts (lettered (letters_in d k) n) ≡ pick (eqb (row_of k b).scalar 0) false (shows_scalar n.class)
unfolding keeps_amounts lettered key decimal leading_digits to_small pick
scalar_by_bytes Cents n k zero =
    codes_same (λ k. keeps_amounts (lettered (letters_in Cents k) n)) (λ k. pick (eqb (row_of k 0).scalar 0) false (shows_scalar n.class)) refl k
scalar_by_bytes Cents n k (suc b) =
    codes_same (λ k. keeps_amounts (lettered (letters_in Cents k) n)) (λ k. pick (eqb (row_of k (suc b)).scalar 0) false (shows_scalar n.class)) refl k
scalar_by_bytes Thousands n k zero =
    codes_same (λ k. keeps_amounts (lettered (letters_in Thousands k) n)) (λ k. pick (eqb (row_of k 0).scalar 0) false (shows_scalar n.class)) refl k
scalar_by_bytes Thousands n k (suc b) =
    codes_same (λ k. keeps_amounts (lettered (letters_in Thousands k) n)) (λ k. pick (eqb (row_of k (suc b)).scalar 0) false (shows_scalar n.class)) refl k

-- the class of the scalar is one, in whichever row
one_scalar : (k : Code) (b : ℕ) → pick (eqb (row_of k b).scalar 0) scalar_class (row_of k b).scalar ≡ scalar_class
unfolding pick
one_scalar = rows_same (λ r. pick (eqb r.scalar 0) scalar_class r.scalar) (λ r. scalar_class) refl

scalar_shown : (d : Scale) (e : Entry) → keeps_amounts (print_in d e) ≡ is_scalar e
scalar_shown d e =
    scalar_by_bytes d (numbers_of e) e.code e.block
    ∙ ap (pick (eqb (row_for e).scalar 0) false) (last_two scalar_class e.class (omega arith))
    ∙ elim (ℕ_discrete (row_for e).scalar 0) [
      | yes z ↦ if_eq _ z ∙ sym (if_ge _ (omega (arith, z)))
      | no n ↦ if_ne _ n ∙ ap (eqb e.class) (sym (one_scalar e.code e.block) ∙ if_ne _ n) ∙ sym (if_lt _ (omega (arith, n)))
    ]

-- ---- a line

module _ (d : Scale) (w : List ℕ) (h : length w ≡ 3) (n : Numbers) where
  -- other letters, block and class before the columns of two amounts
  abbrev before : List ℕ → List ℕ → List ℕ
  before x y = map other_case w ++ (32 ∷ decimal 2 n.block) ++ (32 ∷ decimal 2 n.class) ++ (32 ∷ []) ++ x ++ (32 ∷ []) ++ y ++ (10 ∷ [])

  abbrev moved : ℕ → List ℕ
  moved v = moved_amount d (keeps_amounts (lettered w n)) (decimal amount_columns v)

  lettered_moved : moved_line d (lettered w n) ≡ before (moved n.first) (moved n.second)
  unfolding moved_line lettered key values decimal leading_digits
  lettered_moved = rw (is_values 0 3 w h) refl

  behind_letters : (f g : ℕ) → before (decimal amount_columns f) (decimal amount_columns g)
      ≡ lettered (map other_case w) (record { block = n.block; class = n.class; first = f; second = g })
  unfolding lettered key values decimal leading_digits
  behind_letters f g = rw (is_values 0 3 w h) refl

-- the line of an entry
printed_moved : (d : Scale) (e : Entry) → AcceptedLine e → Convertible d e → moved_line d (print_in d e) ≡ other_line d e
unfolding amount_of
printed_moved d e a C =
    let w = letters_in d e.code in
    let n = numbers_of e in
    let m = a.amounts in
    let amount : (v : ℕ) → v ≤ limit → (is_scalar e ≡ false → Fits d v)
    → moved_amount d (keeps_amounts (lettered w n)) (decimal amount_columns v) ≡ decimal amount_columns (amount_of d e v) =
    λ v b f. ap (λ (t : Bool). moved_amount d t (decimal amount_columns v)) (scalar_shown d e) ∙ amount_moved d (is_scalar e) v b f in
    let first = amount e.first m.first_most (λ s. (C.fit s).0) in
    let second = amount e.second m.second_most (λ s. (C.fit s).1) in
    lettered_moved d w (three_in d e.code) n
    ∙ (λ i. before d w (three_in d e.code) n (first i) (second i))
    ∙ behind_letters d w (three_in d e.code) n (amount_of d e e.first) (amount_of d e e.second)
    ∙ ap (λ (v : List ℕ). lettered v (numbers_of (rescaled d e))) (letters_turned d e.code)

-- a line that no rule turns away, 20 and 21 among them, as the line of its entry in the other sort
pub line_moved : (d : Scale) (s : List ℕ) → length s ≡ sheet_line_bytes → (e : Entry) → parse_in d s ≡ Ok e → convertible d (Ok e) ≡ Ok e
    → moved_line d s ≡ other_line d e
line_moved d s h e q p =
    ap (moved_line d) (line_printed d s h e q) ∙ printed_moved d e (line_accepted d s h e q) (passes_convertible d e p)
