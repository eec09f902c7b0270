-- A layout that is kept: its numbers stand in their columns, an amount is within the limit of 14 columns, and the line is what three letters and
-- the numbers print as; what is printed keeps the layout. Assumes nothing.
use Rattle.basics.proofs.Common.{◌≡◌, ℕ, ◌+◌, ◌^◌, ◌<◌, ◌≤◌, true, eqb, List, [], ◌∷◌, ◌++◌, length, take, drop, Some, None, Option, refl, ap, ◌∙◌, arith, length-append, length-drop, length-take-le}
use Rattle.basics.proofs.Common.{eqb-true, pick, if_true, by_test, never, both, is_values, values}
use Rattle.field.specs.Field.{field, leading_digits, decimal}
use Rattle.field.proofs.WrittenColumns.{length_decimal}
use Rattle.field.proofs.Inverse.{field_bound, read_back, written_back}
use Rattle.key_columns.specs.Key.{code_columns, block_columns, class_columns, key}
use Rattle.key_columns.proofs.Columns.{length_key}
use Rattle.layout.specs.Columns.{sheet_line_bytes, byte_at, first_columns, second_columns, spaced, separated_of, fields_of, layout_of, lettered}
use Rattle.layout.specs.declared.Numbers.{Numbers}

-- ---- what is printed

module _ (w : List ℕ) (h : length w ≡ 3) (n : Numbers) where
  pub length_lettered : length (lettered w n) ≡ sheet_line_bytes
  unfolding lettered
  length_lettered = simp (length-append, length_decimal, length_key w n.block n.class h)

  printed_columns : (separated_of (lettered w n) ≡ true)
      × (block_columns (lettered w n) ≡ decimal 2 n.block) × (class_columns (lettered w n) ≡ decimal 2 n.class)
      × (first_columns (lettered w n) ≡ decimal 14 n.first) × (second_columns (lettered w n) ≡ decimal 14 n.second)
  unfolding lettered key spaced values decimal leading_digits pick
  printed_columns = rw (is_values 0 3 w h) (refl, refl, refl, refl, refl)

  -- the layout is kept, whatever the letters are
  pub printed_layout : n.block < 100 → n.class < 100 → n.first < 10 ^ 14 → n.second < 10 ^ 14 → layout_of (lettered w n) ≡ Some n
  unfolding layout_of
  printed_layout hb hc hf hg =
      let c = printed_columns in
      let p = read_back 2 n.block (omega arith) (omega arith) in
      let q = read_back 2 n.class (omega arith) (omega arith) in
      let r = read_back 14 n.first (omega arith) (omega arith) in
      let s = read_back 14 n.second (omega arith) (omega arith) in
      if_true _ c.0 ∙ rw (c.1, c.2, c.3, c.4, p, q, r, s)

-- ---- what is read

record Read (b c f g : Option ℕ) (n : Numbers) : Type 0 where
  block : b ≡ Some n.block
  class : c ≡ Some n.class
  first : f ≡ Some n.first
  second : g ≡ Some n.second

fields_read : (b c f g : Option ℕ) (n : Numbers) → fields_of b c f g ≡ Some n → Read b c f g n
fields_read (Some x) (Some y) (Some z) (Some w) n q = record { block = cc; class = cc; first = cc; second = cc }
fields_read (Some x) (Some y) (Some z) None n q = never (cc)
fields_read (Some x) (Some y) None g n q = never (cc)
fields_read (Some x) None f g n q = never (cc)
fields_read None c f g n q = never (cc)

-- a line by its columns
abbrev by_columns : List ℕ → List ℕ
by_columns s =
    code_columns s ++ (byte_at 4 s ∷ block_columns s) ++ (byte_at 7 s ∷ class_columns s)
    ++ (byte_at 10 s ∷ first_columns s) ++ (byte_at 25 s ∷ second_columns s) ++ (byte_at 40 s ∷ [])

-- the bytes between the numbers
separators : (s : List ℕ) → separated_of s ≡ true
    → (byte_at 4 s ≡ 32) × (byte_at 7 s ≡ 32) × (byte_at 10 s ≡ 32) × (byte_at 25 s ≡ 32) × (byte_at 40 s ≡ 10)
unfolding spaced
separators s q =
    let a = both (eqb (byte_at 4 s) 32) q in
    let b = both (eqb (byte_at 7 s) 32) a.1 in
    let c = both (eqb (byte_at 10 s) 32) b.1 in
    let d = both (eqb (byte_at 25 s) 32) c.1 in
    (eqb-true _ _ a.0, eqb-true _ _ b.0, eqb-true _ _ c.0, eqb-true _ _ d.0, eqb-true _ _ d.1)

module _ (s : List ℕ) (h : length s ≡ sheet_line_bytes) where
  columns_all : s ≡ by_columns s
  unfolding values
  columns_all = rw (is_values 0 40 s h)

  -- n columns from the one after a on
  long : (a n : ℕ) → a + n ≤ sheet_line_bytes → length (take n (drop a s)) ≡ n
  long a n f = length-take-le n (drop a s) (rw length-drop (omega arith))

  number_bound : (a n r : ℕ) → a + n ≤ sheet_line_bytes → field (take n (drop a s)) ≡ Some r → r < 10 ^ n
  number_bound a n r f q = rw (long a n f) at (field_bound _ r q)

  number_printed : (a n r : ℕ) → a + n ≤ sheet_line_bytes → field (take n (drop a s)) ≡ Some r → take n (drop a s) ≡ decimal n r
  number_printed a n r f q = written_back _ r q ∙ ap (λ (m : ℕ). decimal m r) (long a n f)

  module _ (n : Numbers) where
    abbrev Kept-read : Type 0
    Kept-read = (separated_of s ≡ true) × Read (field (block_columns s)) (field (class_columns s)) (field (first_columns s)) (field (second_columns s)) n

    kept_read : layout_of s ≡ Some n → Kept-read
    unfolding layout_of
    kept_read =
        by_test (λ l. l ≡ Some n → Kept-read) _ _ _
        (λ t q. (t, fields_read (field (block_columns s)) (field (class_columns s)) (field (first_columns s)) (field (second_columns s)) n q))
        (λ t q. never (cc))

    -- an amount has 14 columns
    pub kept_amounts : layout_of s ≡ Some n → (n.first < 10 ^ 14) × (n.second < 10 ^ 14)
    kept_amounts q =
        let m = (kept_read q).1 in
        (number_bound 10 14 _ (omega arith) m.first, number_bound 25 14 _ (omega arith) m.second)

    pub kept_printed : layout_of s ≡ Some n → s ≡ lettered (code_columns s) n
    unfolding lettered key
    kept_printed q =
        let r = kept_read q in
        let m = r.1 in
        let p = separators s r.0 in
        columns_all
        ∙ rw (
          p.0,
          p.1,
          p.2,
          p.3,
          p.4,
          number_printed 4 2 _ (omega arith) m.block,
          number_printed 7 2 _ (omega arith) m.class,
          number_printed 10 14 _ (omega arith) m.first,
          number_printed 25 14 _ (omega arith) m.second,
        )
