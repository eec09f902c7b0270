-- A sheet judged by every rule but 14, after document 01, 'What is turned away': 'Order: 1, 2; then the first bad line, in it 3, 4, 5, 6, 8, 9,
-- 10, 11; then 12, 13', and document 02's 3 of a whole line before 2, 19 in a line, 'tested after 11', 16, 'after 12 and before 13', and 17, 'after
-- 16 and before 13'. Each rule ends in the next one. Assumes nothing.
use Rattle.std.specs.Prelude.{Result, Ok, Err, List, ℕ, ltb, map, take}
use Rattle.basics.specs.Pick.{pick}
use Rattle.basics.specs.First.{any_to}
use Rattle.refusal.specs.Outcome.{rule_number}
use Rattle.refusal.specs.declared.Refusal.{Refusal}
use Rattle.refusal.specs.declared.Place.{Place}
use Rattle.refusal.specs.declared.Place.TheVariants as place
use Rattle.sizes.specs.Sizes.{non_participating, blocks}
use Rattle.guideline.specs.Operational.{RO}
use Rattle.guideline.specs.Buffer.{count, sum_k, free, available, buffer}
use Rattle.figures.specs.Parts.{numbered_figures}
use Rattle.figures.specs.declared.NumberedFigures.{NumberedFigures}
use Rattle.sheet_length.specs.Measured.{measured, after_length}
use Rattle.codes.specs.Codes.{scalar_class}
use Rattle.codes.specs.declared.Code.TheVariants.{Gen}
use Rattle.sheet_line.specs.declared.Entry.{Entry}
use Rattle.places.specs.Entries.{has_line}
use Rattle.order.specs.Reading.{Reading, reading}
use Rattle.order.specs.Reading.Reading.{complete, stopped}
use Rattle.credits.specs.Credits.{credit_above}
use Rattle.sheet_blocks.specs.Blocks.{rows_to, dividend_barred}
use Rattle.judgement.specs.Sheet.{sheet_of}
use Rattle.judgement.specs.declared.Totals.{Totals}

-- what a sheet is judged to be
pub data Judgement : Type 0 where
  -- under a rule, with its place
  turned_away : ℕ → Place → Judgement
  -- the lines of a sheet that no rule turns away
  sound : List Entry → Judgement

-- rule 13: 'credits above sum of K + guarantee requirement + RO, as reported', with document 02's #102 'all credits that belong to no block'
-- against 'what is left'
unfoldable pub rule13 : List Entry → Judgement
rule13 es = pick (ltb (available (sheet_of es)) (free (sheet_of es))) (turned_away 13 place.Nowhere) (sound es)

-- rule 17, 'after 16 and before 13'
unfoldable pub rule17 : List Entry → Judgement
rule17 es = pick (any_to (dividend_barred es) blocks) (turned_away 17 place.Nowhere) (rule13 es)

-- rule 16: 'a sheet with a credit above its block's LT(1)', of whichever block has a MOR line
unfoldable pub rule16 : List Entry → Judgement
rule16 es = pick (any_to (credit_above es) non_participating) (turned_away 16 place.Nowhere) (rule17 es)

-- rule 12: 'no g line'
unfoldable pub rule12 : List Entry → Judgement
rule12 es = pick (has_line es Gen 0 scalar_class) (rule16 es) (turned_away 12 place.Nowhere)

-- 'then the first bad line'
unfoldable pub rule_lines : Reading → Judgement
rule_lines (stopped es n i) = turned_away n (place.Line i)
rule_lines (complete es) = rule12 es

-- rules 1 and 2, with rule 3 of the whole lines where rule 2 applies (document 02, #108), and then the lines
unfoldable pub judgement : List ℕ → Judgement
judgement s = after_length (measured s) turned_away (rule_lines (reading s))

-- ---- what a judgement has to tell

-- a refusal; or how many blocks exist, the rows of their figures, the sum of K, RO and the buffer
pub data Findings : Type 0 where
  refusal : ℕ → Place → Findings
  figures : ℕ → List (ℕ × List ℕ) → ℕ → ℕ → ℕ → Findings

-- the refusal of a sheet that is turned away, the figures of a sound one
unfoldable pub findings : Judgement → Findings
findings (turned_away n p) = refusal n p
findings (sound es) =
    let s = sheet_of es in
    figures (count s) (rows_to es blocks) (sum_k s.blocks) (RO s.volumes s.general) (buffer s)

-- what the answer says in document 01's numbers, with the rows of figures that count
abbrev pub stated : Result Totals Refusal → List NumberedFigures → Findings
stated (Err r) rows = refusal (rule_number r.0) r.1
stated (Ok t) rows = figures t.count (map numbered_figures (take t.count rows)) t.sum t.ro t.buffer
