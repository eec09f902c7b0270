-- What the steps hand on to one another: an input is taken a chunk at a time, and what is known afterwards is fixed by the bytes that it had so far, not
-- by how they were cut. Assumes nothing.
use Rattle.std.specs.Prelude.{◌≡◌, is_none, IfSome, List, [], ◌∷◌, ◌++◌, map, ℕ, suc, ◌+◌, ◌*◌, ◌≤◌, ltb, length, take, drop}
use Rattle.report_line.specs.Line.{line_bytes, rows_in}
use Rattle.sheet_length.specs.Measured.{longest_sheet}
use Rattle.quarter_stream.specs.Sheets.{sheets_of, count}
use Rattle.quarter_stream.specs.Steps.{Within, SoFar}
use Rattle.summary.specs.Summaries.{summary_of}
use Rattle.text_answer.specs.Printing.{Printed}
use Rattle.quarter_text.specs.Printout.{most_sheets, columns, answered, sheet_rows, accepted_of, quarter_text}
use Rattle.quarter_text.specs.Demand.{QuarterDemand}
use Rattle.quarter.specs.declared.Quarter.{Quarter}

-- the bytes of n lines
abbrev pub lines_long : ℕ → ℕ
lines_long n = line_bytes columns * n

-- a line for each sheet, and eight for the summary
abbrev pub longest_output : ℕ
longest_output = lines_long (most_sheets + 8)

-- after the bytes s of an input: whether there are more than 60 sheets, where nothing is held; how many sheets are answered, their lines in front of
-- the output, and what they come to together; and, as long as there are not more, what the room holds of the sheet that is not closed. The room has a
-- byte more than the longest sheet, and the output a line for each sheet and the summary
pub record After (s room out : List ℕ) (q : Quarter) : Type 0 where
  pub over : is_none q.held ≡ ltb most_sheets (count (sheets_of s))
  pub sheets : q.sheets ≡ length (answered s)
  pub lines : take (lines_long q.sheets) out ≡ rows_in columns (sheet_rows 1 (answered s))
  pub summary : q.summary ≡ summary_of (accepted_of 1 (answered s))
  pub held : IfSome q.held (λ h. SoFar room h s (map (take (length room)) (answered s)))
  pub within : IfSome q.held (Within (length room))
  pub room_long : length room ≡ suc longest_sheet
  pub out_long : length out ≡ longest_output

-- what is known is that of some bytes
abbrev pub Reachable : List ℕ → List ℕ → Quarter → Type 0
Reachable room out q = (s : List ℕ) × After s room out q

-- .. in some room
abbrev pub ReachableInSomeRoom : List ℕ → Quarter → Type 0
ReachableInSomeRoom out q = (room : List ℕ) × Reachable room out q

-- a chunk more: whichever bytes came before, what is known is that of them and the chunk; no line is taken back, and the output behind the lines keeps
-- its bytes
pub record Taken (room₀ out₀ : List ℕ) (q₀ : Quarter) (chunk room out : List ℕ) (q : Quarter) : Type 0 where
  pub after : (s : List ℕ) → After s room₀ out₀ q₀ → After (s ++ chunk) room out q
  pub more : q₀.sheets ≤ q.sheets
  pub behind : drop (lines_long q.sheets) out ≡ drop (lines_long q.sheets) out₀

-- all chunks of an input, one after the other
unfoldable pub concat : List (List ℕ) → List ℕ
concat [] = []
concat (c ∷ cs) = c ++ concat cs

-- each of them taken, from a state and its rooms to another
abbrev pub Steps : List (List ℕ) → List ℕ → List ℕ → Quarter → List ℕ → List ℕ → Quarter → Type 0
Steps [] room₀ out₀ q₀ room out q = (room₀ ≡ room) × (out₀ ≡ out) × (q₀ ≡ q)
Steps (c ∷ cs) room₀ out₀ q₀ room out q =
    (room₁ : List ℕ) × (out₁ : List ℕ) × (q₁ : Quarter) × Taken room₀ out₀ q₀ c room₁ out₁ q₁ × Steps cs room₁ out₁ q₁ room out q

-- the end of the input: whichever bytes came, their text stands in front of the output, n bytes, the rest keeps its bytes, and the summary in the text
-- says what it has to
pub record Finished (out₀ : List ℕ) (q : Quarter) (n : ℕ) (out : List ℕ) : Type 0 where
  pub text : (s room : List ℕ) → After s room out₀ q → Printed (quarter_text s) n out₀ out
  pub demand : (s room : List ℕ) → After s room out₀ q → QuarterDemand s (take n out)
