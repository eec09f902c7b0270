-- What is printed of an input that holds sheets. Document 02, #114: 'In report lines of 30 bytes, the number (for REF the place) in 11–29, it prints for
-- each its buffer (SHT, sheet, 1) or its REF line, then as SUM, 0, items 1 to 8 ..'. 'It refuses, as number 24 with the sheet, an input with more than
-- 60 sheets, and, as number 25 with the sheet, one whose last sheet isn't closed, 24 first; the sheets before it are answered and no summary follows.'
-- Assumes nothing.
use Rattle.std.specs.Prelude.{List, [], ◌∷◌, ◌++◌, map, ℕ, suc, ◌*◌, ◌≤◌, ltb, length, take}
use Rattle.basics.specs.Pick.{pick}
use Rattle.refusal.specs.declared.Place.TheVariants as place
use Rattle.guideline.specs.Buffer.{Sheet, buffer}
use Rattle.judgement.specs.Sheet.{sheet_of}
use Rattle.judgement.specs.Judgement.{Judgement, judgement}
use Rattle.judgement.specs.Judgement.Judgement.{turned_away, sound}
use Rattle.quarter_sheet.specs.Answer.{most_buffer}
use Rattle.report_line.specs.declared.Row.{Row}
use Rattle.report_line.specs.Line.{rows_in}
use Rattle.text_answer.specs.Printing.{refusal_row}
use Rattle.report.specs.Rows.{row, items_from}
use Rattle.quarter_stream.specs.Sheets.{Sheets, sheets_of, count}
use Rattle.summary.specs.declared.Accepted.{Accepted}
use Rattle.summary.specs.declared.Summary.{Summary}
use Rattle.summary.specs.Summaries.{summary_of, items_of}

-- 'up to 60 sheets'
abbrev pub most_sheets : ℕ
most_sheets = 60

-- 'the number .. in 11–29'
abbrev pub columns : ℕ
columns = 19

-- a summary of at most 60 sheets: a sheet more passes no word
abbrev pub SummaryFits : Summary → Type 0
SummaryFits m = (m.count ≤ most_sheets) × (m.total ≤ most_buffer * most_sheets)

-- the codes of a sheet's line and of the summary's, as bytes
abbrev pub SHT : List ℕ
SHT = 83 ∷ 72 ∷ 84 ∷ []

abbrev pub SUM : List ℕ
SUM = 83 ∷ 85 ∷ 77 ∷ []

-- of sheet n, as it is judged: 'its buffer (SHT, sheet, 1) or its REF line', whose number stands in 5–6 and 0 in 8–9 as in a report
unfoldable pub sheet_row : ℕ → Judgement → Row
sheet_row n (turned_away k p) = refusal_row k p
sheet_row n (sound es) = row SHT n 1 (buffer (sheet_of es))

-- of sheets that are numbered from n on
unfoldable pub sheet_rows : ℕ → List (List ℕ) → List Row
sheet_rows n [] = []
sheet_rows n (x ∷ xs) = sheet_row n (judgement x) ∷ sheet_rows (suc n) xs

-- the amounts of a sheet, if it is accepted
unfoldable pub sound_as : Judgement → List Sheet
sound_as (turned_away k p) = []
sound_as (sound es) = sheet_of es ∷ []

-- sheet n with its buffer, if it is accepted
unfoldable pub accepted_as : ℕ → Judgement → List Accepted
accepted_as n j = map (λ s. record { sheet = n; buffer = buffer s }) (sound_as j)

-- the accepted ones of sheets that are numbered from n on
unfoldable pub accepted_of : ℕ → List (List ℕ) → List Accepted
accepted_of n [] = []
accepted_of n (x ∷ xs) = accepted_as n (judgement x) ++ accepted_of (suc n) xs

-- the sheets that are answered: the closed ones, 60 at most
abbrev pub answered : List ℕ → List (List ℕ)
answered s = take most_sheets (sheets_of s).closed

-- 'as SUM, 0, items 1 to 8'
abbrev pub summary_rows : List Accepted → List Row
summary_rows xs = items_from 1 SUM 0 (items_of (summary_of xs))

-- 25 'with the sheet', where something stands after the last closing line; else the summary
unfoldable pub closed_or25 : List (List ℕ) → List ℕ → List Row
closed_or25 xs [] = summary_rows (accepted_of 1 xs)
closed_or25 xs (b ∷ r) = refusal_row 25 (place.Sheet (suc (length xs))) ∷ []

-- what follows the lines of the sheets: 24 'with the sheet', which is the 61st, first
unfoldable pub ending : Sheets → List Row
ending s = pick (ltb most_sheets (count s)) (refusal_row 24 (place.Sheet (suc most_sheets)) ∷ []) (closed_or25 s.closed s.rest)

-- all lines of an input
abbrev pub quarter_rows : List ℕ → List Row
quarter_rows s = sheet_rows 1 (answered s) ++ ending (sheets_of s)

-- their bytes
unfoldable pub quarter_text : List ℕ → List ℕ
quarter_text s = rows_in columns (quarter_rows s)
