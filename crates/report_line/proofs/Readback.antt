-- The numbers of a report that is made of lines are read back off it. Assumes nothing.
-- In order: what stands in the columns of a line; columns 1–9 are the same where code, block and item are; a list of rows.
use Rattle.basics.proofs.Common.{◌≡◌, ℕ, suc, ◌+◌, ◌/◌, ◌^◌, ◌<◌, Bool, true, false, eqb, List, [], ◌∷◌, ◌++◌, length, take, drop, Some, Option, sym, refl, ap, ◌∙◌, append_assoc, add-one, arith}
use Rattle.basics.proofs.Common.{length-append, take_at, drop_at, eq-eqb, ne_eqb, ℕ_discrete, Each, pick, if_true, if_false, if_eq, if_ne, is_values, values}
use mathlib.Core.List.{List-discrete}
use native.Mathlib.Nat.{add-div_left}
use Rattle.sizes.specs.Sizes.{number_columns}
use Rattle.field.specs.Field.{field, leading_digits, decimal}
use Rattle.field.proofs.WrittenColumns.{length_decimal}
use Rattle.field.proofs.Inverse.{read_back}
use Rattle.key_columns.specs.Key.{key_bytes, key}
use Rattle.key_columns.proofs.Columns.{key_read}
use Rattle.report_line.specs.declared.Row.{Row}
use Rattle.report_line.specs.Line.{before_number, line_bytes, report_line_bytes, line_in, report_line, row_in, rows_in, print_rows, equal_bytes, found_in, found_at, number_at}

abbrev key_of : Row → List ℕ
key_of r = key r.code r.block r.item

-- a row that a line has the columns for, where the number has w of them
pub record PrintableIn (w : ℕ) (r : Row) : Type 0 where
  pub code : length r.code ≡ 3
  pub block : r.block < 100
  pub item : r.item < 100
  pub number : r.number < 10 ^ w

-- in a report
abbrev pub Printable : Row → Type 0
Printable r = PrintableIn number_columns r

-- ---- what stands in the columns of a line

pub length_in_lem : (w : ℕ) (code : List ℕ) (block item number : ℕ) → length code ≡ 3 → length (line_in w code block item number) ≡ line_bytes w
unfolding line_in key
length_in_lem w code block item number h = simp (length-append, length_decimal, h) (omega arith)

pub length_line : (code : List ℕ) (block item number : ℕ) → length code ≡ 3 → length (report_line code block item number) ≡ report_line_bytes
length_line code block item number h = length_in_lem number_columns code block item number h

module _ (w : ℕ) (pos : 0 < w) (r : Row) (p : PrintableIn w r) where
  -- columns 1–9, and what follows column 10
  key_then : (rest : List ℕ) → (take key_bytes (row_in w r ++ rest) ≡ key_of r) × (drop before_number (row_in w r ++ rest) ≡ decimal w r.number ++ (10 ∷ rest))
  unfolding values decimal leading_digits line_in key
  key_then rest = rw (is_values 0 3 r.code p.code) (refl, append_assoc (decimal w r.number) (10 ∷ []) rest)

  -- columns 1–9, the number's columns, and what follows the line
  line_parts : (rest : List ℕ) → (take key_bytes (row_in w r ++ rest) ≡ key_of r) × (take w (drop before_number (row_in w r ++ rest)) ≡ decimal w r.number)
      × (drop (line_bytes w) (row_in w r ++ rest) ≡ rest)
  line_parts rest =
      let k = key_then rest in
      let n = length_decimal w r.number in
      (k.0, rw k.1 (take_at (decimal w r.number) (10 ∷ rest) w n), drop_at (row_in w r) rest (line_bytes w) (length_in_lem w r.code r.block r.item r.number p.code))

  -- lines that begin with this one: its number where its columns 1–9 are those looked for, else what the rest gives
  step : (rest code : List ℕ) (block item : ℕ)
      → found_at w (row_in w r ++ rest) code block item ≡ pick (equal_bytes (key_of r) (key code block item)) (field (decimal w r.number)) (found_at w rest code block item)
  unfolding found_at found_in
  step rest code block item =
      let n : length (row_in w r ++ rest) ≡ line_bytes w + length rest = rw (length-append, length_in_lem w r.code r.block r.item r.number p.code) in
      let e : length (row_in w r ++ rest) / line_bytes w ≡ suc (length rest / line_bytes w) =
      ap (λ (m : ℕ). m / line_bytes w) n ∙ add-div_left (length rest) (omega arith) ∙ add-one (length rest / line_bytes w) in
      let t = line_parts rest in
      let k = key code block item in
      rw e (λ i. pick (equal_bytes (t.0 i) k) (field (t.1 i)) (found_in w (length rest / line_bytes w) (t.2 i) k))

-- ---- columns 1–9 are the same where code, block and item are

same_bytes : (s : List ℕ) → equal_bytes s s ≡ true
unfolding equal_bytes
same_bytes [] = refl
same_bytes (a ∷ s) = if_eq false {a = a} refl ∙ same_bytes s

other_bytes : (s t : List ℕ) → (s ≡ t → ⊥) → equal_bytes s t ≡ false
unfolding equal_bytes
other_bytes [] [] n = absurd (n refl)
other_bytes [] (b ∷ t) n = refl
other_bytes (a ∷ s) [] n = refl
other_bytes (a ∷ s) (b ∷ t) n =
    elim (ℕ_discrete a b) [
      | yes e ↦ if_eq _ e ∙ other_bytes s t (λ q. n (cc))
      | no e ↦ if_ne _ e
    ]

-- the row has a code, a block and an item
unfoldable pub row_is : Row → List ℕ → ℕ → ℕ → Bool
row_is r code block item = pick (equal_bytes r.code code) (pick (eqb r.item item) (eqb r.block block) false) false

module _ (w : ℕ) (r s : Row) (p : PrintableIn w r) (q : PrintableIn w s) where
  same_key : equal_bytes (key_of r) (key_of s) ≡ row_is r s.code s.block s.item
  unfolding row_is
  same_key =
      let k = key_read r.code r.block r.item p.code p.block p.item in
      let l = key_read s.code s.block s.item q.code q.block q.item in
      elim (List-discrete ℕ_discrete r.code s.code) [
        | no n ↦ other_bytes (key_of r) (key_of s) (λ e. n (cc (k.0, l.0))) ∙ sym (if_false _ (other_bytes r.code s.code n))
        | yes x ↦
            let c : equal_bytes r.code s.code ≡ true = rw x (same_bytes s.code) in
            elim (ℕ_discrete r.item s.item) [
              | no n ↦ other_bytes (key_of r) (key_of s) (λ e. n (cc (k.2, l.2))) ∙ sym (if_true _ c ∙ if_ne _ n)
              | yes y ↦ elim (ℕ_discrete r.block s.block) [
                | no n ↦ other_bytes (key_of r) (key_of s) (λ e. n (cc (k.1, l.1))) ∙ sym (if_true _ c ∙ if_eq _ y ∙ ne_eqb _ _ n)
                | yes z ↦ rw (x, y, z) (same_bytes (key_of s)) ∙ sym (if_true _ c ∙ if_eq _ y ∙ eq-eqb _ _ z)
              ]
            ]
      ]

-- ---- a list of rows

-- the number of the first row that has a code, a block and an item; z where there is none
unfoldable pub number_among : List Row → List ℕ → ℕ → ℕ → Option ℕ → Option ℕ
number_among [] code block item z = z
number_among (r ∷ rs) code block item z = pick (row_is r code block item) (Some r.number) (number_among rs code block item z)

-- lines give the numbers of their rows. s is what is looked for; its number plays no part.
pub row_found : (w : ℕ) → 0 < w → (rs : List Row) (s : Row) (rest : List ℕ) → Each (PrintableIn w) rs → PrintableIn w s
    → found_at w (rows_in w rs ++ rest) s.code s.block s.item ≡ number_among rs s.code s.block s.item (found_at w rest s.code s.block s.item)
unfolding rows_in number_among
row_found w pos [] s rest p q = refl
row_found w pos (r ∷ rs) s rest p q =
    rw append_assoc
    (step w pos r p.0 (rows_in w rs ++ rest) s.code s.block s.item
    ∙ rw (same_key w r s p.0 q, read_back w r.number pos p.0.number, row_found w pos rs s rest p.1 q))

-- of a report
pub rows_read : (rs : List Row) (s : Row) (rest : List ℕ) → Each Printable rs → Printable s
    → number_at (print_rows rs ++ rest) s.code s.block s.item ≡ number_among rs s.code s.block s.item (number_at rest s.code s.block s.item)
rows_read = row_found number_columns (omega arith)

pub append_in : (w : ℕ) (rs ss : List Row) → rows_in w (rs ++ ss) ≡ rows_in w rs ++ rows_in w ss
unfolding rows_in
append_in w [] ss = refl
append_in w (r ∷ rs) ss = rw (append_in w rs ss, append_assoc)

pub rows_append : (rs ss : List Row) → print_rows (rs ++ ss) ≡ print_rows rs ++ print_rows ss
rows_append = append_in number_columns
