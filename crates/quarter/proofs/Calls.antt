-- The call on an input that is whole: its text is taken over into the room where it has its length, and says what it has to. It is never longer than
-- the longest output, so that with room for that the call never refuses. Assumes nothing.
-- In order: the text that was worked out, n bytes in front of an output; what its summary says; its length; it refuses by 14 alone, and only where
-- its text is longer than the room.
use Rattle.basics.proofs.Common.{◌≡◌, ℕ, suc, ◌<◌, ◌≤◌, List, [], ◌∷◌, ◌++◌, length, take, drop, sym, refl, ap, ◌∙◌, subst, arith, length-append, length-take, take_at, subst⁻¹, by_test, never}
use Rattle.refusal.specs.Outcome.{printed, Outcome.accepted, Outcome.refused}
use Rattle.refusal.specs.declared.Place.{Place}
use Rattle.refusal.specs.declared.Place.TheVariants as place
use Rattle.judgement.specs.Judgement.{judgement}
use Rattle.report_line.specs.declared.Row.{Row}
use Rattle.report_line.specs.Line.{row_in, rows_in}
use Rattle.report_line.proofs.Readback.{length_in_lem, append_in}
use Rattle.report.proofs.Items.{items_in_long}
use Rattle.text_answer.specs.Lent.{Done, TooLong, untouched, Text.bytes}
use Rattle.text_answer.specs.Printing.{REF, refusal_row, Printed}
use Rattle.text_answer.proofs.LentRoom as lent
use Rattle.quarter_stream.specs.Sheets.{Sheets, sheets_of}
use Rattle.summary.specs.Summaries.{summary_of, items_of}
use Rattle.quarter_text.specs.Printout.{most_sheets, columns, SUM, answered, sheet_row, sheet_rows, accepted_of, closed_or25, ending, quarter_text}
use Rattle.quarter_text.specs.Demand.{QuarterDemand}
use Rattle.quarter_text.proofs.Rows.{row_long}
use Rattle.quarter_text.proofs.Accuracy.{quarter_demand}
use Rattle.quarter.specs.Call.{quarter_call, SummarySays}
use Rattle.quarter.specs.Steps.{lines_long, longest_output, After, Taken, Finished}
use Rattle.quarter.specs.declared.Quarter.{Quarter}
use Rattle.quarter.proofs.SheetsSoFar.{row_alone}

-- ---- the text that was worked out, n bytes in front of an output

-- an input that is one chunk, taken from nothing on to its end
pub at_once : (s : List ℕ) {room₀ out₀ room out out' : List ℕ} {q₀ q : Quarter} {n : ℕ}
    → After [] room₀ out₀ q₀ → Taken room₀ out₀ q₀ s room out q → Finished out q n out' → Printed (quarter_text s) n out out'
at_once s {room = room} A T F = F.text s room (T.after [] A)

module _ (s r : List ℕ) {n : ℕ} {out₀ out : List ℕ} (P : Printed (quarter_text s) n out₀ out) where
  pub text_within : n ≤ length out
  text_within = omega (arith, P.count, ap length P.bytes, length-append (quarter_text s) (drop n out₀))

  in_front : take n out ≡ quarter_text s
  in_front = ap (take n) P.bytes ∙ take_at (quarter_text s) (drop n out₀) n (sym P.count)

  pub no_room : length r < n → untouched 14 place.Nowhere r ≡ quarter_call s r
  unfolding quarter_call
  no_room = lent.lent_short _ r refl P.count

  pub taken_over : n ≤ length r → {r' : List ℕ} → r' ≡ take n out ++ drop n r
      → ◌≡◌ {A = Done} (record { outcome = accepted (n ∷ []); room = r' }) (quarter_call s r)
  unfolding quarter_call
  taken_over h e = lent.lent_filled _ r refl P.count h (e ∙ ap (λ (t : List ℕ). t ++ drop n r) in_front)

-- ---- what its summary says

module _ (s r : List ℕ) where
  says : SummarySays s (quarter_call s r).outcome (quarter_call s r).room
  unfolding quarter_call
  says =
      lent.by_answer (bytes (quarter_text s)) r (λ d. SummarySays s d.outcome d.room) (λ n p e. tt) (λ t e h. tt)
      (λ t e.
      let q : quarter_text s ≡ t = cc in
      subst (QuarterDemand s) (q ∙ sym (take_at t (drop (length t) r) (length t) refl)) (quarter_demand s))

  -- what the call gives, and what its summary says
  pub promised : (d : Done) → d ≡ quarter_call s r → record { answer : d ≡ quarter_call s r; summary_says : SummarySays s d.outcome d.room }
  promised d e = record { answer = e; summary_says = subst⁻¹ (λ (x : Done). SummarySays s x.outcome x.room) e says }

-- ---- its length

sheets_long : (n : ℕ) (xs : List (List ℕ)) → length (rows_in columns (sheet_rows n xs)) ≡ lines_long (length xs)
unfolding sheet_rows rows_in
sheets_long n [] = refl
sheets_long n (x ∷ xs) =
    let row = sheet_row n (judgement x) in
    omega (arith, length-append (row_in columns row) (rows_in columns (sheet_rows (suc n) xs)), row_long n (judgement x), sheets_long (suc n) xs)

refusal_long : (n : ℕ) (p : Place) → length (rows_in columns (refusal_row n p ∷ [])) ≤ lines_long 8
refusal_long n p = omega (arith, ap length (row_alone (refusal_row n p)), length_in_lem columns REF n 0 (printed p) refl)

ending_long : (S : Sheets) → length (rows_in columns (ending S)) ≤ lines_long 8
unfolding ending closed_or25
ending_long S =
    by_test (λ (rs : List Row). length (rows_in columns rs) ≤ lines_long 8) _ _ _ (λ h. refusal_long 24 (place.Sheet (suc most_sheets)))
    (λ h. closed S.rest)
  where
    closed : (r : List ℕ) → length (rows_in columns (closed_or25 S.closed r)) ≤ lines_long 8
    closed [] = omega (arith, items_in_long SUM 0 columns refl 1 (items_of (summary_of (accepted_of 1 S.closed))))
    closed (b ∷ r) = refusal_long 25 (place.Sheet (suc (length S.closed)))

pub never_longer : (s : List ℕ) → length (quarter_text s) ≤ longest_output
unfolding quarter_text
never_longer s =
    let rs = sheet_rows 1 (answered s) in
    let t = ap length (append_in columns rs (ending (sheets_of s))) ∙ length-append (rows_in columns rs) (rows_in columns (ending (sheets_of s))) in
    omega (arith, t, sheets_long 1 (answered s), length-take most_sheets (sheets_of s).closed, ending_long (sheets_of s))

-- ---- it refuses by 14 alone, and only where its text is longer than the room

module _ (s r : List ℕ) where
  pub only_14 : (n : ℕ) (p : Place) → (quarter_call s r).outcome ≡ refused n p → n ≡ 14
  unfolding quarter_call
  only_14 n p =
      lent.by_answer (bytes (quarter_text s)) r (λ d. d.outcome ≡ refused n p → n ≡ 14) (λ k q e o. never (cc)) (λ t e h o. cc) (λ t e o. never (cc))

  module _ (p : Place) where
    -- so with room for the longest output it never refuses
    pub never_14 : longest_output ≤ length r → (quarter_call s r).outcome ≡ refused 14 p → ⊥
    unfolding quarter_call
    never_14 room =
        lent.never_14 _ r (λ n q e. never (cc))
        (λ t e.
        let q : quarter_text s ≡ t = cc in
        omega (arith, room, never_longer s, ap length q))
        p

    pub refused_by_14 : (quarter_call s r).outcome ≡ refused 14 p → (p ≡ place.Nowhere) × TooLong (quarter_call s) (bytes (quarter_text s)) r
    unfolding quarter_call
    refused_by_14 = lent.refused_by_14 _ r (λ n q e. never (cc)) p
