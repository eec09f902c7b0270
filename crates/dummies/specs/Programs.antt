-- The plainest program of each kind of dummy, as what it gives for a sheet and a lent report. proofs/Programs shows that each meets the premise
-- of its kind, so that the theorems in proofs/Dummies are about programs that there are.
-- Assumes nothing.
use Rattle.std.specs.Prelude.{List, [], ◌∷◌, ◌++◌, map, ℕ, ltb, get_or}
use Rattle.basics.specs.Pick.{pick}
use Rattle.basics.specs.Ascending.{ascending}
use Rattle.refusal.specs.Outcome.Outcome.{accepted}
use Rattle.refusal.specs.declared.Place.TheVariants.{Nowhere}
use Rattle.sizes.specs.Sizes.{blocks}
use Rattle.guideline.specs.Block.{figures_of}
use Rattle.guideline.specs.Operational.{RO}
use Rattle.guideline.specs.Buffer.{sum_k, free, available, buffer}
use Rattle.report_line.specs.declared.Row.{Row}
use Rattle.report_line.specs.Line.{print_rows}
use Rattle.sheet_line.specs.declared.Entry.{Entry}
use Rattle.places.specs.Entries.{exists}
use Rattle.report.specs.Rows.{TOT, items_from, block_rows, report_length}
use Rattle.judgement.specs.Sheet.{sheet_of}
use Rattle.judgement.specs.Judgement.{Judgement, judgement}
use Rattle.judgement.specs.Judgement.Judgement.{turned_away, sound}
use Rattle.text_answer.specs.Lent.{Done, untouched, rule14}
use Rattle.sheet_answer.specs.Judged.{judged_call}
use Rattle.dummies.specs.Dummies.{Call, filled_in, blanked}

-- turns every sheet away, by rule 12
abbrev pub turns_away : Call
turns_away s r = untouched 12 Nowhere r

-- writes the same bytes whatever the sheet, where there is room for them, and else says 'report too short'
abbrev pub writes_constant : List ℕ → Call
writes_constant bytes s r = rule14 bytes r

-- claims the length of a report of no block, and writes nothing
abbrev pub claims_success : Call
claims_success s r = record { outcome = accepted (report_length 0 ∷ []); room = r }

-- says 'report too short' at once
abbrev pub says_too_short : Call
says_too_short s r = untouched 14 Nowhere r

-- ---- works out the first block and fills in the others

-- the figures of the first block that exists
abbrev pub first_figures : List Entry → List ℕ
first_figures es = figures_of (get_or (sheet_of es).blocks 0 [])

-- the sum of K, RO and the buffer with the first block in place of each
abbrev pub filled_totals : List Entry → List ℕ
filled_totals es =
    let s = filled_in (sheet_of es) in
    sum_k s.blocks ∷ RO s.volumes s.general ∷ buffer s ∷ []

-- its lines: those figures for every block that exists, and those totals
abbrev pub filled_rows : List Entry → List Row
filled_rows es = ascending (exists es) (λ b. block_rows b (first_figures es)) blocks ++ items_from 1 TOT 0 (filled_totals es)

-- its report
abbrev pub filled_report : List Entry → List ℕ
filled_report es = print_rows (filled_rows es)

-- rule 13, by its own sum of K, then rule 14 and the report
unfoldable pub filled13 : List Entry → List ℕ → Done
filled13 es r =
    let s = filled_in (sheet_of es) in
    pick (ltb (available s) (free s)) (untouched 13 Nowhere r) (rule14 (filled_report es) r)

-- rule 17, of all dividend credits together against that sum
unfoldable pub filled17 : List Entry → List ℕ → Done
filled17 es r =
    let s = filled_in (sheet_of es) in
    pick (ltb (sum_k s.blocks) s.CRᵢ) (untouched 17 Nowhere r) (filled13 es r)

-- by what the sheet was judged to be
unfoldable pub after_filling : Judgement → List ℕ → Done
after_filling (turned_away n p) r = untouched n p r
after_filling (sound es) r = filled17 es r

-- the program
unfoldable pub fills_in : Call
fills_in s r = after_filling (judgement s) r

-- ---- fills in the others with whatever doesn't depend on their lines

-- a program whose report is of these lines, whatever report; with `report_of` it works out the first block and gives the others zeros
abbrev pub sees_first : (List Entry → List ℕ) → Call
sees_first f = judged_call (λ es. f (map blanked es))
