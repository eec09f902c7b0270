-- The end of an input: what follows the lines of the sheets, and that with them it is the whole text. Assumes nothing.
-- In order: the room that is left; the text; what it ends with; the three ends.
use Rattle.basics.proofs.Common.{◌≡◌, ℕ, suc, ◌+◌, ◌-◌, ◌≤◌, List, [], ◌∷◌, ◌++◌, length, take, drop, is_none, Some, None, sym, refl, ap, ◌∙◌, arith, length-take, length-take-le, take_at, ltb-true}
use Rattle.basics.proofs.Common.{put_mid, if_true, put_behind, stretch_long}
use Rattle.refusal.specs.declared.Place.TheVariants as place
use Rattle.text_answer.specs.Printing.{REF, refusal_row, Printed}
use Rattle.report_line.specs.Line.{line_bytes, row_in, rows_in}
use Rattle.report_line.proofs.LineBytes.{in_columns}
use Rattle.report_line.proofs.Readback.{length_in_lem, append_in}
use Rattle.report.specs.Rows.{items_from}
use Rattle.report.proofs.Items.{items_in_long}
use Rattle.quarter_stream.specs.Sheets.{sheets_of, count}
use Rattle.quarter_stream.specs.declared.OpenSheet.{OpenSheet}
use Rattle.summary.specs.Summaries.{summary_of, items_of}
use Rattle.summary.specs.declared.Summary.{Summary}
use Rattle.quarter_text.specs.Printout.{most_sheets, columns, SUM, answered, sheet_rows, accepted_of, closed_or25, ending, quarter_text}
use Rattle.quarter.specs.Steps.{lines_long, longest_output, After, ReachableInSomeRoom, Finished}
use Rattle.quarter.specs.declared.Quarter.{Quarter}
use Rattle.quarter.proofs.SheetsSoFar.{row_alone, one_least, to_going, how_many, rest_none, rest_some}
use Rattle.quarter_text.proofs.Rows.{all_answered, not_more, summary_follows}
use Rattle.quarter_text.proofs.Accuracy.{quarter_demand}

-- ---- the room that is left

pub answered_most : {s room out : List ℕ} {q : Quarter} → After s room out q → q.sheets ≤ most_sheets
answered_most {s} A = omega (arith, A.sheets, length-take most_sheets (sheets_of s).closed)

pub room_left : {out : List ℕ} {q : Quarter} → ReachableInSomeRoom out q → (lines_long q.sheets + lines_long 8 ≤ length out) × (length out ≡ longest_output)
room_left B = (omega (arith, answered_most B.1.1, B.1.1.out_long), B.1.1.out_long)

-- the stretch of one line more, as the code lends it
abbrev line_stretch : List ℕ → ℕ → List ℕ
line_stretch out n = take (lines_long n + line_bytes columns - lines_long n) (drop (lines_long n) out)

pub line_long : (out : List ℕ) (n : ℕ) → lines_long n + lines_long 8 ≤ length out → length (line_stretch out n) ≡ line_bytes columns
line_long out n h = stretch_long out (lines_long n) (line_bytes columns) (omega arith)

-- ---- the text

module _ {out : List ℕ} {q : Quarter} {ys : List ℕ} {m : ℕ} (y : length ys ≡ m) (fits : lines_long q.sheets + m ≤ length out)
    (ends : (s room : List ℕ) → After s room out q → ys ≡ rows_in columns (ending (sheets_of s))) where
  whole : (s room : List ℕ) → After s room out q →
      Printed (quarter_text s) (lines_long q.sheets + m) out (put_mid (lines_long q.sheets) (lines_long q.sheets + m - lines_long q.sheets) out ys)
  unfolding quarter_text
  whole s room A =
      let n = lines_long q.sheets in
      let W = put_behind n out A.lines m ys fits y in
      let t : rows_in columns (sheet_rows 1 (answered s)) ++ ys ≡ rows_in columns (sheet_rows 1 (answered s) ++ ending (sheets_of s)) =
      ap (λ (v : List ℕ). rows_in columns (sheet_rows 1 (answered s)) ++ v) (ends s room A) ∙ sym (append_in columns (sheet_rows 1 (answered s)) (ending (sheets_of s))) in
      record {
        count = sym W.count ∙ ap length t;
        bytes = rw (← t) W.text;
      }

  finished : Finished out q (lines_long q.sheets + m) (put_mid (lines_long q.sheets) (lines_long q.sheets + m - lines_long q.sheets) out ys)
  finished =
      record {
        text = whole;
        demand = λ s room A.
            let P = whole s room A in
            rw (P.bytes, take_at (quarter_text s) (drop (lines_long q.sheets + m) out) (lines_long q.sheets + m) (sym P.count)) (quarter_demand s);
      }

-- ---- what it ends with

module _ {s room out : List ℕ} {q : Quarter} (A : After s room out q) where
  ends_24 : q.held ≡ None → row_in columns (refusal_row 24 (place.Sheet (q.sheets + 1))) ≡ rows_in columns (ending (sheets_of s))
  unfolding ending count
  ends_24 e =
      let c = ltb-true most_sheets (count (sheets_of s)) (sym A.over ∙ ap is_none e) in
      let l : q.sheets ≡ most_sheets = A.sheets ∙ length-take-le most_sheets (sheets_of s).closed (omega (arith, one_least (sheets_of s).rest)) in
      let n : q.sheets + 1 ≡ suc most_sheets = omega arith in
      ap (λ (k : ℕ). row_in columns (refusal_row 24 (place.Sheet k))) n ∙ sym (row_alone _) ∙ ap (rows_in columns) (sym (if_true _ (sym A.over ∙ ap is_none e)))

  module _ {h : OpenSheet} (f : q.held ≡ Some h) where
    ends_25 : (h.length ≡ 0 → ⊥) → row_in columns (refusal_row 25 (place.Sheet (q.sheets + 1))) ≡ rows_in columns (ending (sheets_of s))
    unfolding closed_or25
    ends_25 d =
        let n : q.sheets + 1 ≡ suc (length (sheets_of s).closed) = omega (arith, how_many (to_going A f)) in
        let e = not_more (sheets_of s) (to_going A f).fits ∙ open_rest (sheets_of s).rest (rest_some (to_going A f) d) in
        ap (λ (k : ℕ). row_in columns (refusal_row 25 (place.Sheet k))) n ∙ sym (row_alone _) ∙ ap (rows_in columns) (sym e)
      where
        open_rest : (r : List ℕ) → (r ≡ [] → ⊥) → closed_or25 (sheets_of s).closed r ≡ refusal_row 25 (place.Sheet (suc (length (sheets_of s).closed))) ∷ []
        open_rest [] e = absurd (e refl)
        open_rest (b ∷ r) e = refl

    ends_summary : h.length ≡ 0 → rows_in columns (items_from 1 SUM 0 (items_of q.summary)) ≡ rows_in columns (ending (sheets_of s))
    ends_summary z =
        let m : q.summary ≡ summary_of (accepted_of 1 (sheets_of s).closed) = A.summary ∙ ap (λ (xs : List (List ℕ)). summary_of (accepted_of 1 xs)) (all_answered s (to_going A f).fits) in
        let e = summary_follows (sheets_of s) (to_going A f).fits (rest_none (to_going A f) z) in
        ap (λ (v : Summary). rows_in columns (items_from 1 SUM 0 (items_of v))) m ∙ ap (rows_in columns) (sym e)

-- ---- the three ends

-- the line of a refusal with the sheet after those that are answered
abbrev Refusal : List ℕ → Quarter → ℕ → List ℕ → Type 0
Refusal out q n ys = ys ≡ row_in (length (line_stretch out q.sheets) - line_bytes 0) (refusal_row n (place.Sheet (q.sheets + 1)))

abbrev FinishedAfter : List ℕ → Quarter → ℕ → List ℕ → Type 0
FinishedAfter out q m ys = Finished out q (lines_long q.sheets + m) (put_mid (lines_long q.sheets) (lines_long q.sheets + m - lines_long q.sheets) out ys)

module _ (out : List ℕ) (q : Quarter) (left : lines_long q.sheets + lines_long 8 ≤ length out) where
  refused : (n : ℕ) (ys : List ℕ)
      → ((s room : List ℕ) → After s room out q → row_in columns (refusal_row n (place.Sheet (q.sheets + 1))) ≡ rows_in columns (ending (sheets_of s)))
      → Refusal out q n ys → FinishedAfter out q (line_bytes columns) ys
  refused n ys ends y =
      let e = in_columns columns (line_stretch out q.sheets) REF n 0 (q.sheets + 1) (line_long out q.sheets left) y in
      finished (ap length e ∙ length_in_lem columns REF n 0 (q.sheets + 1) refl) (omega arith) (λ s room A. e ∙ ends s room A)

  pub finished_24 : q.held ≡ None → (ys : List ℕ) → Refusal out q 24 ys → FinishedAfter out q (line_bytes columns) ys
  finished_24 e ys = refused 24 ys (λ s room A. ends_24 A e)

  pub finished_25 : {h : OpenSheet} → q.held ≡ Some h → (h.length ≡ 0 → ⊥) → (ys : List ℕ) → Refusal out q 25 ys → FinishedAfter out q (line_bytes columns) ys
  finished_25 f d ys = refused 25 ys (λ s room A. ends_25 A f d)

  pub finished_summary : {h : OpenSheet} → q.held ≡ Some h → h.length ≡ 0 → (ys : List ℕ) → ys ≡ rows_in columns (items_from 1 SUM 0 (items_of q.summary))
      → FinishedAfter out q (lines_long 8) ys
  finished_summary f z ys e = finished (ap length e ∙ items_in_long SUM 0 columns refl 1 (items_of q.summary)) left (λ s room A. e ∙ ends_summary A f z)
