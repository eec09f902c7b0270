-- The input's lines as the library cuts them, each the line behind those before it; what a search over them for a broken one tells. Assumes nothing.
use Rattle.basics.proofs.Common.{◌≡◌, ℕ, ◌/◌, ◌<◌, ◌≤◌, Bool, true, false, List, [], length, slice_index_or, Some, None, Option, MatchOption, HoldsAt, sym, ap, ◌∙◌, arith, AllWithin, first_chunks}
use Rattle.basics.proofs.Common.{FoundAt, count_chunks, chunk_is, sought_found, sought_none}
use Rattle.movement_input.specs.Reading.{input_line_bytes, input_lines, input_bytes, amount_of, amount_at, is_bad, lines_kept}

-- whether a line is broken
abbrev pub bad : List ℕ → Bool
bad l = is_bad (amount_of l)

module _ (s : List ℕ) {lines : List (List ℕ)} (long : length s ≡ input_bytes)
    (e : lines ≡ first_chunks input_line_bytes (length s / input_line_bytes) s) where
  abbrev bad_at : ℕ → Bool
  bad_at i = is_bad (amount_at s i)

  abbrev Kept-to : ℕ → Type 0
  Kept-to = AllWithin (λ l. bad l ≡ false) lines 0

  cut : lines ≡ first_chunks input_line_bytes input_lines s
  cut = let n : length s / input_line_bytes ≡ input_lines = omega arith in rw n at e

  count : length lines ≡ input_lines
  count = ap length cut ∙ count_chunks input_line_bytes input_lines s

  pub held : (i : ℕ) (d : List ℕ) → i < input_lines → amount_of (slice_index_or lines i d) ≡ amount_at s i
  held i d h = rw cut (ap amount_of (chunk_is input_line_bytes input_lines s i d h))

  kept_before : (i : ℕ) → i ≤ input_lines → Kept-to i → (k : ℕ) → k < i → bad_at k ≡ false
  kept_before i h a k l = rw (held k [] (omega arith)) at (a k [] (omega arith) l)

  -- none is broken, or the first that is
  pub broken_found :
      (r : Option ℕ) → MatchOption r (Kept-to (length lines)) (λ i. (i < length lines) × HoldsAt (λ l. bad l ≡ true) lines i × Kept-to i)
      → FoundAt input_lines (lines_kept s) r
  unfolding lines_kept
  broken_found None a =
      let before = kept_before input_lines (omega arith) (rw count at a) in
      omega (arith, sought_none bad_at input_lines input_lines (omega arith) (record { within = omega arith; before = before }))
  broken_found (Some i) (h, t, a) =
      let l : i < input_lines = omega (arith, count) in
      let t : bad_at i ≡ true = rw (held i [] l) at (t []) in
      let before = kept_before i (omega arith) a in
      (sym (sought_found bad_at input_lines i l t (record { within = omega arith; before = before })), l)
