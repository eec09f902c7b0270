-- What measuring a sheet gives in each of the four cases, and that it refuses by a rule of the sheet, at a line that there can be. Assumes nothing.
use Rattle.basics.proofs.Common.{◌≡◌, ℕ, ◌+◌, ◌%◌, ◌<◌, ◌≤◌, List, length, Ok, Err, Result, refl, ◌∙◌, arith, ltb-false, ltb-true, eqb-true, if_eq, if_ne, if_lt, if_ge, by_test}
use Rattle.refusal.specs.declared.Place.TheVariants as place
use Rattle.refusal.specs.declared.Refusal.{Refusal}
use Rattle.refusal.specs.declared.Rule.TheVariants as rule
use Rattle.refusal.specs.Outcome.{rule_number, Judging, judging, printed}
use Rattle.layout.specs.Columns.{sheet_line_bytes}
use Rattle.layout.specs.Whole.{whole_lines, lines_kept}
use Rattle.codes.specs.Codes.{most_lines}
use Rattle.sheet_length.specs.Measured.{longest_sheet, layout_first, rule2, measured}

module _ (s : List ℕ) where
  -- rule 1 turns it away, whatever its lines are
  pub too_long : longest_sheet < length s → measured s ≡ Err (rule.SheetTooLong, place.Nowhere)
  unfolding measured
  too_long h = if_lt _ h

  module _ (h : length s ≤ longest_sheet) where
    -- rule 2 doesn't apply: whole lines, which are not looked at here
    pub whole : length s % sheet_line_bytes ≡ 0 → measured s ≡ Ok tt
    unfolding measured rule2
    whole z = if_ge _ h ∙ if_eq _ z

    module _ (n : length s % sheet_line_bytes ≡ 0 → ⊥) where
      pub broken_first : lines_kept s < whole_lines s → measured s ≡ Err (rule.BrokenLayout, place.Line (lines_kept s + 1))
      unfolding measured rule2 layout_first
      broken_first k = if_ge _ h ∙ if_ne _ n ∙ if_lt _ k

      pub all_kept : whole_lines s ≤ lines_kept s → measured s ≡ Err (rule.NotWholeLines, place.Nowhere)
      unfolding measured rule2 layout_first
      all_kept k = if_ge _ h ∙ if_ne _ n ∙ if_ge _ k

  -- what holds of each refusal, and of whole lines that are not too many, holds of the measure
  module _ (P : Result (Unit {0}) Refusal → Type 0) (refused : (r : Refusal) → Judging (rule_number r.0) → printed r.1 ≤ most_lines → P (Err r))
      (lines : length s ≤ longest_sheet → length s % sheet_line_bytes ≡ 0 → P (Ok tt)) where
    pub by_length : P (measured s)
    unfolding measured rule2 layout_first
    by_length =
        by_test P _ _ _ (λ t. refused (rule.SheetTooLong, place.Nowhere) (judging 1 refl refl refl) (omega arith)) λ t.
        let h : length s ≤ longest_sheet = ltb-false _ _ t in
        by_test P _ _ _ (λ u. lines h (eqb-true _ _ u)) λ u.
        by_test P _ _ _ (λ k.
        let b : lines_kept s < whole_lines s = ltb-true _ _ k in
        refused (rule.BrokenLayout, place.Line (lines_kept s + 1)) (judging 3 refl refl refl) (omega arith))
        (λ k. refused (rule.NotWholeLines, place.Nowhere) (judging 2 refl refl refl) (omega arith))
