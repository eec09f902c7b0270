-- The whole lines of a sheet as the code lends them: the first chunks of 40 bytes, each the line behind those before it; and what a search over them
-- for one whose layout is broken tells. Assumes nothing.
use Rattle.basics.proofs.Common.{◌≡◌, ℕ, ◌*◌, ◌/◌, ◌<◌, ◌≤◌, Bool, true, false, List, [], length, drop, slice_index_or, Some, None, Option, MatchOption, HoldsAt, sym, ap, ◌∙◌, arith, length-drop}
use Rattle.basics.proofs.Common.{length-take-le, AllWithin, first_chunks, FoundAt, count_chunks, chunk_is, sought_found, sought_none}
use Rattle.layout.specs.Columns.{sheet_line_bytes, layout_of}
use Rattle.layout.specs.Whole.{whole_lines, line_at, is_broken, breaks_at, lines_kept}

-- a whole line has its 40 bytes
pub length_line : (s : List ℕ) (i : ℕ) → i < whole_lines s → length (line_at s i) ≡ sheet_line_bytes
length_line s i h = length-take-le sheet_line_bytes (drop (sheet_line_bytes * i) s) (rw length-drop (omega arith))

-- whether the layout of a line is broken
abbrev pub breaks : List ℕ → Bool
breaks l = is_broken (layout_of l)

-- what the library cuts a sheet into
module _ (s : List ℕ) {lines : List (List ℕ)} (e : lines ≡ first_chunks sheet_line_bytes (length s / sheet_line_bytes) s) where
  pub count_lines : length lines ≡ whole_lines s
  count_lines = ap length e ∙ count_chunks sheet_line_bytes (whole_lines s) s

  pub within : {i : ℕ} → i < length lines → i < whole_lines s
  within h = omega (arith, count_lines)

  pub line_is : {i : ℕ} → i < length lines → (d : List ℕ) → slice_index_or lines i d ≡ line_at s i
  line_is {i} h d = rw e (chunk_is sheet_line_bytes (whole_lines s) s i d (within h))

  abbrev Kept-to : ℕ → Type 0
  Kept-to = AllWithin (λ l. breaks l ≡ false) lines 0

  kept_before : (i : ℕ) → i ≤ length lines → Kept-to i → (k : ℕ) → k < i → breaks_at s k ≡ false
  kept_before i h a k l = rw (line_is {i = k} (omega arith) []) at (a k [] (omega arith) l)

  -- what a search over the lines finds: none is broken, or the first that is
  pub broken_found :
      (r : Option ℕ) → MatchOption r (Kept-to (length lines)) (λ i. (i < length lines) × HoldsAt (λ l. breaks l ≡ true) lines i × Kept-to i)
      → FoundAt (whole_lines s) (lines_kept s) r
  unfolding lines_kept
  broken_found None a =
      let n = whole_lines s in
      let before = rw count_lines at (kept_before (length lines) (omega arith) a) in
      omega (arith, sought_none (breaks_at s) n n (omega arith) (record { within = omega arith; before = before }))
  broken_found (Some i) (h, t, a) =
      let t : breaks_at s i ≡ true = rw (line_is h []) at (t []) in
      let before = kept_before i (omega arith) a in
      (sym (sought_found (breaks_at s) (whole_lines s) i (within h) t (record { within = omega (arith, within h); before = before })), within h)
