-- Document 02, #108, as its reader meets it. 'No other answer changes': a sheet above the limit is refused by 1, and one of whole lines within it is
-- judged by its lines. Of the others the first whole line that breaks the layout is told by 3, and by 2 that none does. Assumes nothing.
use Rattle.basics.proofs.Common.{◌≡◌, ℕ, ◌+◌, ◌%◌, ◌<◌, ◌≤◌, true, false, List, length, arith, sought_found, sought_none}
use Rattle.refusal.specs.declared.Place.TheVariants as place
use Rattle.layout.specs.Columns.{sheet_line_bytes}
use Rattle.layout.specs.Whole.{whole_lines, breaks_at, lines_kept}
use Rattle.sheet_length.specs.Measured.{longest_sheet}
use Rattle.sheet_length.proofs.Measures.{too_long, whole, broken_first, all_kept}
use Rattle.order.specs.Reading.{reading}
use Rattle.judgement.specs.Judgement.{rule_lines, judgement, Judgement.turned_away}
use Rattle.judgement.proofs.Rules.{lined}

module _ (s : List ℕ) where
  pub above_limit : longest_sheet < length s → judgement s ≡ turned_away 1 place.Nowhere
  unfolding judgement
  above_limit h = rw (too_long s h)

  module _ (h : length s ≤ longest_sheet) where
    pub by_its_lines : length s % sheet_line_bytes ≡ 0 → judgement s ≡ rule_lines (reading s)
    by_its_lines z = lined s (whole s h z)

    module _ (n : length s % sheet_line_bytes ≡ 0 → ⊥) where
      -- i whole lines keep the layout, and the next one breaks it
      pub broken_line : (i : ℕ) → i < whole_lines s → ((k : ℕ) → k < i → breaks_at s k ≡ false) → breaks_at s i ≡ true
          → judgement s ≡ turned_away 3 (place.Line (i + 1))
      unfolding judgement lines_kept
      broken_line i l b e =
          let f : lines_kept s ≡ i = sought_found _ _ i l e (record { within = omega arith; before = b }) in
          rw (broken_first s h n (omega (arith, f)), f)

      pub none_broken : ((k : ℕ) → k < whole_lines s → breaks_at s k ≡ false) → judgement s ≡ turned_away 2 place.Nowhere
      unfolding judgement lines_kept
      none_broken b =
          let f : lines_kept s ≡ whole_lines s = sought_none _ _ (whole_lines s) (omega arith) (record { within = omega arith; before = b }) in
          rw (all_kept s h n (omega (arith, f)))
