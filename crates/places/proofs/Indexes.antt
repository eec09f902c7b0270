-- The indexes of a table: each code, block and class has one of its own, so a table of entries holds what they say. By the rows of the table of codes,
-- none of which is named: a code more changes nothing here. Assumes nothing.
-- In order: the places of a row; an index is within a table; an index has one code, block and class; what the tables hold.
use Rattle.basics.proofs.Common.{◌≡◌, ℕ, ◌+◌, ◌-◌, ◌*◌, ◌<◌, ◌≤◌, false, eqb, List, [], ◌∷◌, length, sym, refl, ap, ◌∙◌, subst, mul-le-mul_left, arith, length-set, get_or-set_other, get_or-set_same}
use Rattle.basics.proofs.Common.{ℕ_discrete, dec_le, length-replicate, get_or-replicate, get_or-eq_default, Each, pick, two_digits, if_true, if_false}
use Rattle.sizes.specs.Sizes.{blocks}
use Rattle.codes.specs.Codes.{row_of, Key}
use Rattle.codes.proofs.Table.{rows, each_row, rows_same, rank_of_row, rank_one}
use Rattle.sheet_line.specs.Rules.{AcceptedLine}
use Rattle.codes.specs.declared.Code.{Code, TheVariants.Gen}
use Rattle.codes.specs.declared.CodeRow.{CodeRow}
use Rattle.sheet_line.specs.declared.Entry.{Entry}
use Rattle.places.specs.Entries.{has_key, lookup, SameKey}
use Rattle.places.specs.Places.{places, second_places, index_of, index_for, table, tabled}
use Rattle.places.proofs.Keys.{has_key_lem, no_key}

-- ---- the places of a row

-- where the places of a row's lines begin, and where they end
abbrev begins : CodeRow → ℕ
begins r = r.first_place + r.block_places * (r.lowest - 1)

abbrev ends : CodeRow → ℕ
ends r = r.first_place + r.block_places * (r.highest - 1) + r.classes

-- a block and a class that a row has
abbrev Has : CodeRow → ℕ → ℕ → Type 0
Has r b c = (r.lowest ≤ b) × (b ≤ r.highest) × (1 ≤ c) × (c ≤ r.classes)

has : (k : Code) (b c : ℕ) → Key k b c → Has (row_of k b) b c
has k b c v = (v.low, v.high, v.one, v.most)

among : (k : Code) (b c : ℕ) → Key k b c → (begins (row_of k b) ≤ index_of k b c) × (index_of k b c < ends (row_of k b))
unfolding index_of
among k b c v =
    let r = row_of k b in
    let l : r.lowest - 1 ≤ b - 1 = omega (arith, v.low) in
    let h : b - 1 ≤ r.highest - 1 = omega (arith, v.high) in
    (omega (arith, mul-le-mul_left r.block_places l, v.one), omega (arith, mul-le-mul_left r.block_places h, v.one, v.most))

-- ---- an index is within a table

ends_most : (k : Code) (b : ℕ) → ends (row_of k b) ≤ places
ends_most = each_row (λ r. ends r ≤ places) (omega arith)

pub index_most : (k : Code) (b c : ℕ) → Key k b c → index_of k b c < places
index_most k b c v = omega (arith, among k b c v, ends_most k b)

-- the lines that can have a second amount end among the first places: a row without one adds 1 − 0 times all places, which says nothing
paired_first : (k : Code) (b : ℕ) → ends (row_of k b) ≤ second_places + places * (1 - (row_of k b).paired)
paired_first = each_row (λ r. ends r ≤ second_places + places * (1 - r.paired)) (omega arith)

-- a code whose lines stand behind those that can have a second amount has one amount alone
pub single_behind : (k : Code) (b c : ℕ) → Key k b c → second_places ≤ index_of k b c → (row_of k b).paired < c
single_behind k b c v h = omega (arith, among k b c v, paired_first k b, v.one)

-- ---- an index has one code, block and class

-- where the row s begins behind r's beginning, r has ended
abbrev Apart : CodeRow → CodeRow → Type 0
Apart r s = ends r ≤ begins s + places * (1 - (begins s - begins r))

apart : (k : Code) (b : ℕ) (j : Code) (d : ℕ) → Apart (row_of k b) (row_of j d)
apart k b = each_row (Apart (row_of k b)) (each_row (λ r. Each (Apart r) rows) (omega arith) k b)

-- the first of some rows that begins at a place
row_from : List CodeRow → ℕ → CodeRow
row_from [] i = row_of Gen 0
row_from (r ∷ rs) i = pick (eqb (begins r) i) r (row_from rs i)

found : (k : Code) (b : ℕ) → row_from rows (begins (row_of k b)) ≡ row_of k b
unfolding row_from pick
found = rows_same (λ r. row_from rows (begins r)) (λ r. r) refl

-- so an index is among the places of one row
one_row : (k : Code) (b c : ℕ) (j : Code) (d e : ℕ) → Key k b c → Key j d e → index_of k b c ≡ index_of j d e → row_of k b ≡ row_of j d
one_row k b c j d e v w q =
    let x : begins (row_of k b) ≡ begins (row_of j d) = omega (arith, among k b c v, among j d e w, apart k b j d, apart j d k b) in
    sym (found k b) ∙ ap (row_from rows) x ∙ found j d

-- where a row has several blocks, the first is not 0 and each has places for its classes
abbrev Apiece : CodeRow → Type 0
Apiece r = (r.highest ≤ blocks * r.lowest) × (r.classes ≤ r.block_places + places * (1 - (r.highest - r.lowest)))

apiece : (k : Code) (b : ℕ) → Apiece (row_of k b)
apiece = each_row Apiece (omega arith)

-- in one row's places an index has one block and class
one_of_row : (r : CodeRow) (b c d e : ℕ) → Apiece r → Has r b c → Has r d e → r.block_places * (b - 1) + c ≡ r.block_places * (d - 1) + e → (b ≡ d) × (c ≡ e)
one_of_row r b c d e f v w q =
    elim (dec_le r.highest r.lowest) [
      | yes h ↦ let x : b ≡ d = omega arith in (x, omega (arith, ap (λ (n : ℕ). r.block_places * (n - 1)) x))
      | no h ↦
          let u = two_digits r.block_places (b - 1) (c - 1) (d - 1) (e - 1) (omega arith) (omega arith) (omega arith) in
          (omega (arith, u), omega (arith, u))
    ]

pub index_one : (k : Code) (b c : ℕ) (e : Entry) → Key k b c → Key e.code e.block e.class → index_of k b c ≡ index_for e → SameKey k b c e
unfolding index_of
index_one k b c e v w q =
    let r = one_row k b c e.code e.block e.class v w q in
    let x : k ≡ e.code = rank_one k e.code (sym (rank_of_row k b) ∙ ap (λ (s : CodeRow). s.rank) r ∙ rank_of_row e.code e.block) in
    let h : Has (row_of k b) e.block e.class = subst (λ (s : CodeRow). Has s e.block e.class) (sym r) (has e.code e.block e.class w) in
    let p = q ∙ ap (λ (s : CodeRow). s.first_place + s.block_places * (e.block - 1) + e.class - 1) (sym r) in
    let y = one_of_row (row_of k b) b c e.block e.class (apiece k b) (has k b c v) h (omega (arith, p, v.one, w.one)) in
    record { code = x; block = y.0; class = y.1 }

-- an entry with another index has another key
pub other_key : (k : Code) (b c : ℕ) (e : Entry) → (index_of k b c ≡ index_for e → ⊥) → has_key k b c e ≡ false
other_key k b c e n = no_key k b c e (λ s. n (rw (s.code, s.block, s.class)))

-- ---- what the tables hold

module _ (n : ℕ) (f : Entry → ℕ) where
  pub length_table : (es : List Entry) → length (table n f es) ≡ n
  unfolding table
  length_table [] = length-replicate {A = ℕ} n 0
  length_table (e ∷ es) = simp length-set (length_table es)

  -- what a table with a place for a line holds of it
  pub lookup_table : (es : List Entry) (k : Code) (b c : ℕ) → Key k b c → index_of k b c < n → Each AcceptedLine es
      → tabled (table n f es) k b c ≡ lookup f es k b c
  unfolding table lookup
  lookup_table [] k b c v h a = get_or-replicate n (index_of k b c) 0 0 h
  lookup_table (e ∷ es) k b c v h a =
      let w = a.0.key in
      elim (ℕ_discrete (index_of k b c) (index_for e)) [
        | yes q ↦
            rw q (get_or-set_same (table n f es) (index_for e) (f e) 0 (rw length_table (rw q at h)))
            ∙ sym (if_true _ (has_key_lem k b c e (index_one k b c e v w q)))
        | no q ↦
            get_or-set_other (table n f es) (index_for e) (index_of k b c) (f e) 0 q ∙ lookup_table es k b c v h a.1 ∙ sym (if_false _ (other_key k b c e q))
      ]

  -- and one without
  pub none_tabled : (es : List Entry) (k : Code) (b c : ℕ) → n ≤ index_of k b c → tabled (table n f es) k b c ≡ 0
  none_tabled es k b c h = get_or-eq_default (table n f es) 0 {n = index_of k b c} (rw length_table h)
