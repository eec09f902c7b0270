-- The sheet call of document 01: what it answers, and every byte of the lent report afterwards. A sheet is judged; then comes rule 14, and
-- then the report. A refusal leaves the report untouched. What tsav-sheet prints is the printout of the same text.
-- Assumes nothing.
use Rattle.std.specs.Prelude.{List, ◌++◌, ℕ}
use Rattle.basics.specs.Ascending.{ascending}
use Rattle.sizes.specs.Sizes.{blocks}
use Rattle.guideline.specs.Block.{figures_of}
use Rattle.guideline.specs.Operational.{RO}
use Rattle.guideline.specs.Buffer.{sum_k, buffer}
use Rattle.report_line.specs.declared.Row.{Row}
use Rattle.report_line.specs.Line.{print_rows}
use Rattle.sheet_line.specs.declared.Entry.{Entry}
use Rattle.places.specs.Entries.{exists}
use Rattle.report.specs.Rows.{block_rows, total_rows}
use Rattle.credits.specs.Credits.{after_credit}
use Rattle.judgement.specs.Sheet.{sheet_of}
use Rattle.judgement.specs.Judgement.{Judgement}
use Rattle.text_answer.specs.Lent.{Text, Done}
use Rattle.sheet_answer.specs.Judged.{text_of, judged_call}

-- the lines of the blocks that exist, ascending
unfoldable pub block_rows_of : List Entry → List Row
block_rows_of es = ascending (exists es) (λ b. block_rows b (figures_of (after_credit es b))) blocks

-- the lines that close the report
abbrev pub total_rows_of : List Entry → List Row
total_rows_of es = let s = sheet_of es in total_rows (sum_k s.blocks) (RO s.volumes s.general) (buffer s)

-- the report of a sheet's lines
abbrev pub report_of : List Entry → List ℕ
report_of es = print_rows (block_rows_of es ++ total_rows_of es)

-- what the call has to say of a judged sheet: 'the report's length, 29 × (5n + 3) bytes for n blocks', is that of its bytes
abbrev pub answer_to : Judgement → Text
answer_to j = text_of report_of j

-- the sheet call on a sheet s and a lent report r: its judgement, then rule 14, and then the report
abbrev pub sheet_call : List ℕ → List ℕ → Done
sheet_call s r = judged_call report_of s r
