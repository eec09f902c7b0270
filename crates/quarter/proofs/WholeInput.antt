-- All steps together: however an input is cut into chunks, the text is that of all its bytes; and more than 60 sheets are decided by the first byte after
-- the 60th closing line, whatever follows. Assumes nothing.
use Rattle.basics.proofs.Common.{◌≡◌, ℕ, ◌<◌, ◌≤◌, List, [], ◌∷◌, ◌++◌, length, take, drop, sym, ap, ◌∙◌, append_assoc, append-nil, arith, length-append, length-take-le, if_lt, from_further}
use Rattle.report_line.specs.Line.{rows_in}
use Rattle.report_line.proofs.Readback.{append_in}
use Rattle.quarter_stream.specs.Sheets.{sheets_of, count}
use Rattle.quarter_stream.proofs.Continuation.{still_more}
use Rattle.text_answer.specs.Printing.{Printed}
use Rattle.quarter_text.specs.Printout.{most_sheets, columns, answered, sheet_rows, ending, quarter_text}
use Rattle.quarter_text.specs.Demand.{QuarterDemand}
use Rattle.quarter.specs.Steps.{lines_long, After, concat, Steps, Finished}
use Rattle.quarter.specs.declared.Quarter.{Quarter}
use Rattle.quarter.proofs.InputEnd.{answered_most}

after_steps : (cs : List (List ℕ)) {room₀ out₀ room out : List ℕ} {q₀ q : Quarter} (s : List ℕ) → Steps cs room₀ out₀ q₀ room out q
    → After s room₀ out₀ q₀ → After (s ++ concat cs) room out q
unfolding concat
after_steps [] s W A = rw (append-nil s, ← W.0, ← W.1, ← W.2) A
after_steps (c ∷ cs) s W A = rw (← append_assoc s c (concat cs)) (after_steps cs (s ++ c) W.4 (W.3.after s A))

-- the output behind the lines keeps its bytes over all steps
behind_steps : (cs : List (List ℕ)) (room₀ out₀ : List ℕ) (q₀ : Quarter) (room out : List ℕ) (q : Quarter) → Steps cs room₀ out₀ q₀ room out q
    → (q₀.sheets ≤ q.sheets) × (drop (lines_long q.sheets) out ≡ drop (lines_long q.sheets) out₀)
behind_steps [] room₀ out₀ q₀ room out q W = (omega (arith, ap (λ (v : Quarter). v.sheets) W.2), ap (drop (lines_long q.sheets)) (sym W.1))
behind_steps (c ∷ cs) room₀ out₀ q₀ room out q W =
    let T = W.3 in
    let B = behind_steps cs W.0 W.1 W.2 room out q W.4 in
    let l : lines_long W.2.sheets ≤ lines_long q.sheets = omega (arith, B.0) in
    (omega (arith, T.more, B.0), B.1 ∙ from_further W.1 out₀ l T.behind)

-- the lines of the sheets are part of the text
lines_within : {s room out : List ℕ} {q : Quarter} → After s room out q → lines_long q.sheets ≤ length (quarter_text s)
unfolding quarter_text
lines_within {s} {room} {out} {q} A =
    let rs = sheet_rows 1 (answered s) in
    let l : length (take (lines_long q.sheets) out) ≡ lines_long q.sheets = length-take-le (lines_long q.sheets) out (omega (arith, answered_most A, A.out_long)) in
    let t = ap length (append_in columns rs (ending (sheets_of s))) ∙ length-append (rows_in columns rs) (rows_in columns (ending (sheets_of s))) in
    omega (arith, l, ap length A.lines, t)

module _ (cs : List (List ℕ)) (room : List ℕ) {room₀ out₀ out out' : List ℕ} {q₀ q : Quarter} {n : ℕ} (A : After [] room₀ out₀ q₀)
    (W : Steps cs room₀ out₀ q₀ room out q) (F : Finished out q n out') where
  -- what is printed after all steps, from the start on: the text of all bytes, which their cuts have no part in, in front of the output, the rest of
  -- which is as it was before the first chunk
  pub whole_text : Printed (quarter_text (concat cs)) n out₀ out'
  whole_text =
      let L = after_steps cs [] W A in
      let P = F.text (concat cs) room L in
      let l : lines_long q.sheets ≤ n = omega (arith, lines_within L, P.count) in
      let d = from_further out out₀ l (behind_steps cs room₀ out₀ q₀ room out q W).1 in
      record { count = P.count; bytes = P.bytes ∙ ap (λ (r : List ℕ). quarter_text (concat cs) ++ r) d }

  -- and its summary says what it has to
  pub whole_demand : QuarterDemand (concat cs) (take n out')
  whole_demand = F.demand (concat cs) room (after_steps cs [] W A)

-- more than 60 sheets: what follows changes nothing of what is printed
pub decided : (s t : List ℕ) → most_sheets < count (sheets_of s) → quarter_text (s ++ t) ≡ quarter_text s
unfolding quarter_text ending
decided s t h =
    let M = still_more most_sheets s t h in
    let e : ending (sheets_of (s ++ t)) ≡ ending (sheets_of s) = if_lt _ M.0 ∙ sym (if_lt _ h) in
    (λ i. rows_in columns (sheet_rows 1 (M.1 i) ++ e i))
