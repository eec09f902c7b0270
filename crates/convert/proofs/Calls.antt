-- What the call gives: by the sheet's length, then by what was read, then rule 14. What an accepted call has written is as long as the sheet and
-- converts back, and with room for every sheet what is printed is the conversion's own. Assumes nothing.
-- In order: after the lines; by the length; its length, and the numbers of its refusals: a rule's, with a line of the sheet.
use Rattle.basics.proofs.Common.{◌≡◌, ℕ, ◌%◌, ◌<◌, ◌≤◌, List, [], ◌∷◌, length, drop, Ok, Err, Result, refl, ap, ◌∙◌, subst, arith, take_at, subst⁻¹, never}
use Rattle.refusal.specs.Outcome.{Never0, Judging, printed, rule_number, stated_number, Outcome.accepted, Outcome.refused}
use Rattle.refusal.specs.declared.Place.{Place, TheVariants.Line, TheVariants.Nowhere}
use Rattle.sizes.specs.Sizes.{FitsColumns}
use Rattle.layout.specs.Columns.{sheet_line_bytes}
use Rattle.sheet_length.specs.Measured.{longest_sheet, measured, after_length}
use Rattle.refusal.specs.declared.Refusal.{Refusal}
use Rattle.sheet_length.proofs.Measures.{by_length}
use Rattle.sheet_line.specs.declared.Entry.{Entry}
use Rattle.order.specs.Reading.{Reading, Reading.complete, Reading.stopped, outcome_of}
use Rattle.order.proofs.Lines.{stopped_by}
use Rattle.text_answer.specs.Lent.{Done, untouched, Text.no_text}
use Rattle.text_answer.specs.Printing.{printout, Printed, Shown}
use Rattle.text_answer.proofs.LentRoom as lent
use Rattle.text_answer.proofs.LentRoom.{RoomFor, Numbered}
use Rattle.scaled_line.specs.Scale.{scale_of, parse_in}
use Rattle.scaled_line.specs.Amounts.{convertible}
use Rattle.convert.specs.Call.{reading_in, after_reading, conversion, convert_call, ConvertsBack}
use Rattle.convert.specs.Steps.{LinesWritten, lines_call}
use Rattle.scaled_line.specs.declared.Scale.{Scale}
use Rattle.convert.proofs.Reading.{judged}
use Rattle.convert.proofs.RoundTrip.{short_sheet, same_length, lines_long, back}

-- ---- after the lines

turned_away_lem : (d : Scale) (o : Reading) {n : ℕ} {p : Place} → refused n p ≡ outcome_of o → after_reading d o ≡ no_text n p
turned_away_lem d (stopped es m i) q = cc
turned_away_lem d (complete es) q = never (cc)

all_good : (o : Reading) {n : ℕ} → accepted (n ∷ []) ≡ outcome_of o → (es : List Entry) × (o ≡ complete es)
all_good (stopped es m i) q = never (cc)
all_good (complete es) q = (es, refl)

module _ (d : Scale) (s r : List ℕ) where
  pub lines_turned : {n : ℕ} {p : Place} → refused n p ≡ outcome_of (reading_in d s) → untouched n p r ≡ lines_call d s r
  lines_turned q = lent.lent_turned _ r (turned_away_lem d (reading_in d s) q)

  module _ {n : ℕ} (q : accepted (n ∷ []) ≡ outcome_of (reading_in d s)) (z : length s % sheet_line_bytes ≡ 0) where
    pub lines_short : length r < length s → untouched 14 Nowhere r ≡ lines_call d s r
    lines_short h = let g = all_good (reading_in d s) q in lent.lent_short _ r (ap (after_reading d) g.1) (lines_long d s g.0 z g.1) h

    pub lines_written : length s ≤ length r → {r' : List ℕ} → LinesWritten d s r r'
        → ◌≡◌ {A = Done} (record { outcome = accepted (length s ∷ []); room = r' }) (lines_call d s r)
    lines_written h w =
        let g = all_good (reading_in d s) q in
        lent.lent_filled _ r (ap (after_reading d) g.1) (lines_long d s g.0 z g.1) h (w g.0 g.1)

-- ---- by the length

pub whole_lines_lem : (s : List ℕ) → measured s ≡ Ok tt → length s % sheet_line_bytes ≡ 0
whole_lines_lem s = by_length s (λ l. l ≡ Ok tt → length s % sheet_line_bytes ≡ 0) (λ e j m q. never (cc)) (λ h z q. z)

module _ (s r : List ℕ) where
  pub call_turned : {e : Refusal} → measured s ≡ Err e → untouched (rule_number e.0) e.1 r ≡ convert_call s r
  unfolding convert_call conversion
  call_turned q = lent.lent_turned _ r (rw q refl)

  pub call_lines : measured s ≡ Ok tt → lines_call (scale_of s) s r ≡ convert_call s r
  unfolding convert_call conversion
  call_lines q = rw q

  call_back : ConvertsBack s (convert_call s r).outcome (convert_call s r).room
  unfolding convert_call
  call_back =
      lent.by_answer (conversion s) r (λ d. ConvertsBack s d.outcome d.room) (λ n p e. tt) (λ t e h. tt)
      (λ t e. (same_length s t e, ap conversion (take_at t (drop (length t) r) (length t) refl) ∙ back s t e))

  -- what the call gives, and that it converts back
  pub promised : (d : Done) → d ≡ convert_call s r → record { answer : d ≡ convert_call s r; converts_back : ConvertsBack s d.outcome d.room }
  promised d e = record { answer = e; converts_back = subst⁻¹ (λ (x : Done). ConvertsBack s x.outcome x.room) e call_back }

-- ---- its length, and the numbers of its refusals: a rule's, with a line of the sheet

-- the longest sheet has room for each
pub room_for : (s r : List ℕ) → longest_sheet ≤ length r → RoomFor (conversion s) r
room_for s r room t e = omega (arith, room, same_length s t e, short_sheet s t e)

pub right_numbers : (s : List ℕ) → Numbered (conversion s)
unfolding conversion
right_numbers s n p =
    by_length s
    (λ l. after_length l no_text (after_reading (scale_of s) (reading_in (scale_of s) s)) ≡ no_text n p → Judging n × FitsColumns (printed p))
    (λ r j h q.
    let e : rule_number r.0 ≡ n = cc in
    let f : r.1 ≡ p = cc in
    (subst Judging e j, subst (λ (x : Place). FitsColumns (printed x)) f (omega (arith, h))))
    (λ h z. go h (reading_in (scale_of s) s) refl)
  where
    go : length s ≤ longest_sheet → (o : Reading) → reading_in (scale_of s) s ≡ o → after_reading (scale_of s) o ≡ no_text n p
        → Judging n × FitsColumns (printed p)
    go h (stopped es m i) e q =
        let w = stopped_by (parse_in (scale_of s)) (convertible (scale_of s)) (judged (scale_of s)) es m i s e in
        let f : m ≡ n = cc in
        let g : Line i ≡ p = cc in
        (subst Judging f w.0, subst (λ (x : Place). FitsColumns (printed x)) g (omega (arith, w.1, h)))
    go h (complete es) e q = never (cc)

-- so what is printed with such room is the conversion's own
pub printed_sheet : (s r : List ℕ) → longest_sheet ≤ length r → (a : Result ℕ Refusal) {r' r'' : List ℕ} {g : ℕ}
    → ◌≡◌ {A = Done} (record { outcome = stated_number a; room = r' }) (convert_call s r) → Shown a g r' r'' → Printed (printout (conversion s)) g r r''
unfolding convert_call
printed_sheet s r room = lent.printed_answer _ r (room_for s r room)

-- a refusal has a number, and with such room it is never 14
module _ (s r : List ℕ) where
  pub never_0 : Never0 (convert_call s r).outcome
  unfolding convert_call
  never_0 = lent.never_0 _ r (right_numbers s)

  pub never_14 : longest_sheet ≤ length r → (p : Place) → (convert_call s r).outcome ≡ refused 14 p → ⊥
  unfolding convert_call
  never_14 room = lent.never_14 _ r (right_numbers s) (room_for s r room)
