-- What judging leaves in the ledger and in the table of rows: the lines of a sound sheet, and the table of rows behind the rows. Assumes nothing.
use Rattle.std.specs.Prelude.{◌≡◌, Result, Ok, Err, List}
use Rattle.refusal.specs.declared.Refusal.{Refusal}
use Rattle.figures.specs.declared.NumberedFigures.{NumberedFigures}
use Rattle.sheet_line.specs.declared.Entry.{Entry}
use Rattle.ledger.specs.Lines.{Holds}
use Rattle.ledger.specs.declared.Ledger.{Ledger}
use Rattle.sheet_blocks.specs.Steps.{RestKept}
use Rattle.judgement.specs.Judgement.{Judgement}
use Rattle.judgement.specs.Judgement.Judgement.{sound}
use Rattle.judgement.specs.declared.Totals.{Totals}

-- a ledger holds the lines of a sound judgement
abbrev pub LinesOf : Judgement → Ledger → Type 0
LinesOf j l = (es : List Entry) → j ≡ sound es → Holds es l

-- where a sheet is sound, the table behind the rows of its blocks, before and after, is the same
abbrev pub BehindRows : Result Totals Refusal → List NumberedFigures → List NumberedFigures → Type 0
BehindRows (Ok t) rows rows' = RestKept t.count rows rows'
BehindRows (Err r) rows rows' = Unit {0}
