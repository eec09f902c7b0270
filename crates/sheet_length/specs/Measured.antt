-- A sheet by its length: document 01's rules 1 and 2, and document 02's #108: 'when rule 1 passes and rule 2 applies, the whole lines are tested for
-- rule 3 first. It gives 3 with the first bad whole line, and 2 if all are sound.' Each rule ends in the next one; the last one first. Lines
-- count from 1. Assumes nothing.
use Rattle.std.specs.Prelude.{Result, Ok, Err, List, ℕ, ◌+◌, ◌*◌, ◌%◌, ltb, eqb, length}
use Rattle.basics.specs.Pick.{pick}
use Rattle.refusal.specs.declared.Place.{Place}
use Rattle.refusal.specs.declared.Place.TheVariants as place
use Rattle.refusal.specs.declared.Refusal.{Refusal}
use Rattle.refusal.specs.declared.Rule.TheVariants as rule
use Rattle.refusal.specs.Outcome.{rule_number}
use Rattle.layout.specs.Columns.{sheet_line_bytes}
use Rattle.layout.specs.Whole.{whole_lines, lines_kept}
use Rattle.codes.specs.Codes.{most_lines}

-- the bytes of the most lines that a sheet can have
abbrev pub longest_sheet : ℕ
longest_sheet = sheet_line_bytes * most_lines

-- where rule 2 applies: 'It gives 3 with the first bad whole line, and 2 if all are sound'
unfoldable pub layout_first : List ℕ → Result (Unit {0}) Refusal
layout_first s =
    pick (ltb (lines_kept s) (whole_lines s)) (Err (rule.BrokenLayout, place.Line (lines_kept s + 1))) (Err (rule.NotWholeLines, place.Nowhere))

-- rule 2: 'length isn't a multiple of 40'
unfoldable pub rule2 : List ℕ → Result (Unit {0}) Refusal
rule2 s = pick (eqb (length s % sheet_line_bytes) 0) (Ok tt) (layout_first s)

-- rule 1, 'sheet above 11,720 bytes' (25,160 with document 02's lines), and then rule 2
unfoldable pub measured : List ℕ → Result (Unit {0}) Refusal
measured s = pick (ltb longest_sheet (length s)) (Err (rule.SheetTooLong, place.Nowhere)) (rule2 s)

-- what a call gives of a sheet by its length: a refusal, or what is left of a sheet of whole lines
abbrev pub after_length : {A : Type 0} → Result (Unit {0}) Refusal → (ℕ → Place → A) → A → A
after_length (Err r) refused left = refused (rule_number r.0) r.1
after_length (Ok u) refused left = left
