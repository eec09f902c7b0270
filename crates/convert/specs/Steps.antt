-- What the steps of converting (document 02, #110) hand on to one another: the lines as they are written, the call after the sheet's length.
-- Assumes nothing.
use Rattle.std.specs.Prelude.{◌≡◌, List, ◌++◌, ℕ, length, drop}
use Rattle.sheet_line.specs.declared.Entry.{Entry}
use Rattle.scaled_line.specs.Other.{other_line}
use Rattle.scaled_line.specs.declared.Scale.{Scale}
use Rattle.order.specs.Reading.{print_by}
use Rattle.order.specs.Reading.Reading.{complete}
use Rattle.text_answer.specs.Lent.{Done, lent}
use Rattle.convert.specs.Call.{reading_in, after_reading}

-- the room after the lines of a sheet, where all are good, and before
abbrev pub LinesWritten : Scale → List ℕ → List ℕ → List ℕ → Type 0
LinesWritten d s r r' = (es : List Entry) → reading_in d s ≡ complete es → r' ≡ print_by (other_line d) es ++ drop (length s) r

-- the call on the lines of a sheet s of this sort, after its length
abbrev pub lines_call : Scale → List ℕ → List ℕ → Done
lines_call d s r = lent (after_reading d (reading_in d s)) r
