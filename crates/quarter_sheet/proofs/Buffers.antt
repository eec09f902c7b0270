-- What judging finds is the sheet's buffer or its refusal; a buffer is bounded, a refusal has a rule's number, and bytes past the longest sheet change
-- nothing. Assumes nothing.
use Rattle.basics.proofs.Common.{◌≡◌, ℕ, suc, ◌≤◌, List, [], ◌∷◌, length, take, Ok, Err, Result, sym, refl, ap, ◌∙◌, mul-le-mul, arith, length-take-le, take_all, dec_le, never}
use Rattle.refusal.specs.Outcome.{stated_by, Outcome.accepted, Outcome.refused}
use Rattle.refusal.specs.declared.Place.{Place}
use Rattle.guideline.specs.Buffer.{Sheet, buffer, AcceptedSheet}
use Rattle.guideline.proofs.Totals.{bracket_fits, buffer_law}
use Rattle.sheet_length.specs.Measured.{longest_sheet}
use Rattle.sheet_line.specs.declared.Entry.{Entry}
use Rattle.judgement.specs.Sheet.{sheet_of}
use Rattle.refusal.specs.declared.Refusal.{Refusal}
use Rattle.figures.specs.declared.NumberedFigures.{NumberedFigures}
use Rattle.judgement.specs.declared.Totals.{Totals}
use Rattle.judgement.specs.Judgement.{Judgement, Judgement.turned_away, Judgement.sound, judgement, findings, stated, Findings.refusal, Findings.figures}
use Rattle.judgement.proofs.Acceptance.{sound_accepted}
use Rattle.judgement.proofs.Rules.{findings_refusal, findings_figures}
use Rattle.judgement.proofs.Lengths.{above_limit}
use Rattle.quarter_sheet.specs.Answer.{buffer_of, most_buffer}

module _ (s : List ℕ) where
  pub turned : {n : ℕ} {p : Place} → refusal n p ≡ findings (judgement s) → refused n p ≡ buffer_of (judgement s)
  unfolding buffer_of
  turned e = ap buffer_of (sym (findings_refusal (judgement s) e))

  pub found : {n : ℕ} {rows : List (ℕ × List ℕ)} {sum ro x : ℕ} → figures n rows sum ro x ≡ findings (judgement s)
      → accepted (x ∷ []) ≡ buffer_of (judgement s)
  unfolding buffer_of
  found e =
      let f = findings_figures (judgement s) e in
      ap (λ (b : ℕ). accepted (b ∷ [])) f.2.buffer_is ∙ ap buffer_of (sym f.1)

  -- what judging tells, with the buffer of its totals
  pub buffer_stated : (v : Result Totals Refusal) (rows : List NumberedFigures) → stated v rows ≡ findings (judgement s)
      → stated_by (λ (t : Totals). t.buffer ∷ []) v ≡ buffer_of (judgement s)
  buffer_stated (Err r) rows e = turned e
  buffer_stated (Ok t) rows e = found e

  -- a room of one byte more than the longest sheet is enough to judge it
  pub cut_judged : judgement (take (suc longest_sheet) s) ≡ judgement s
  cut_judged =
      elim (dec_le (length s) (suc longest_sheet)) [
        | yes h ↦ ap judgement (take_all (suc longest_sheet) s h)
        | no h ↦
            let l : length (take (suc longest_sheet) s) ≡ suc longest_sheet = length-take-le (suc longest_sheet) s (omega arith) in
            above_limit (take (suc longest_sheet) s) (omega (arith, l)) ∙ sym (above_limit s (omega arith))
      ]

pub buffer_most : (s : Sheet) → AcceptedSheet s → buffer s ≤ most_buffer
buffer_most s a = (buffer_law s a).first most_buffer (omega (arith, mul-le-mul a.g_high (bracket_fits s a)))

-- ---- the judgement off the answer

pub is_sound : (j : Judgement) {b : ℕ} → accepted (b ∷ []) ≡ buffer_of j → (es : List Entry) × (j ≡ sound es) × (b ≡ buffer (sheet_of es))
unfolding buffer_of
is_sound (turned_away n p) e = never (cc)
is_sound (sound es) e = (es, refl, cc)

pub is_turned : (j : Judgement) {n : ℕ} {p : Place} → refused n p ≡ buffer_of j → j ≡ turned_away n p
unfolding buffer_of
is_turned (turned_away n p) e = cc
is_turned (sound es) e = never (cc)

-- the buffer of a sheet that is accepted is bounded
pub answer_most : (s : List ℕ) {b : ℕ} → accepted (b ∷ []) ≡ buffer_of (judgement s) → b ≤ most_buffer
answer_most s e = let w = is_sound (judgement s) e in rw w.2 (buffer_most (sheet_of w.0) (sound_accepted s w.0 w.1))
