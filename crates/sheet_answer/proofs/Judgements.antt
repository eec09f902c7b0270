-- The call's text is what judging finds: a refusal is the judgement's own, with a rule's number, and bytes are those of a sound sheet's lines. So each
-- answer is that of lent room; and with room for the text there is no 14, and what is printed is the text or the refusal. Assumes nothing.
use Rattle.basics.proofs.Common.{◌≡◌, ℕ, ◌≤◌, List, length, Result, sym, refl, ap, ◌∙◌, arith, never}
use Rattle.refusal.specs.Outcome.{Never0, stated_number, Outcome.refused}
use Rattle.refusal.specs.declared.Place.{Place, TheVariants.Nowhere}
use Rattle.sheet_line.specs.declared.Entry.{Entry}
use Rattle.judgement.specs.Judgement.{Judgement, Judgement.turned_away, Judgement.sound, judgement, findings, Findings.refusal}
use Rattle.judgement.proofs.Acceptance.{numbered}
use Rattle.judgement.proofs.Rules.{findings_refusal}
use Rattle.refusal.specs.declared.Refusal.{Refusal}
use Rattle.text_answer.specs.Lent.{Text, Text.no_text, Text.bytes, Done, TooLong, untouched, lent}
use Rattle.text_answer.specs.Printing.{ReadsRefusal, printout, Printed, Shown}
use Rattle.text_answer.proofs.LentRoom as laws
use Rattle.text_answer.proofs.LentRoom.{RoomFor, Numbered, filled}
use Rattle.sheet_answer.specs.Judged.{text_of, judged_call}

module _ (f : List Entry → List ℕ) where
  -- bytes are those of a sound sheet's lines, and a refusal is the judgement's own
  sound_text : (j : Judgement) (t : List ℕ) → text_of f j ≡ bytes t → (es : List Entry) × (j ≡ sound es) × (t ≡ f es)
  unfolding text_of
  sound_text (turned_away n p) t e = never (cc)
  sound_text (sound es) t e = (es, refl, cc)

  turned_text : (j : Judgement) (n : ℕ) (p : Place) → text_of f j ≡ no_text n p → j ≡ turned_away n p
  unfolding text_of
  turned_text (turned_away m q) n p e = cc
  turned_text (sound es) n p e = never (cc)

  pub right_numbers : (s : List ℕ) → Numbered (text_of f (judgement s))
  right_numbers s n p e = let w = numbered s n p (turned_text (judgement s) n p e) in (w.0, omega (arith, w.1))

  -- the number and the place of a sheet that is turned away are read back off what is printed of it
  pub refusal_read : (s : List ℕ) (n : ℕ) (p : Place) → judgement s ≡ turned_away n p → ReadsRefusal n p (printout (text_of f (judgement s)))
  unfolding text_of
  refusal_read s n p e = laws.refusal_read _ (right_numbers s) n p (ap (text_of f) e)

  module _ (s r : List ℕ) where
    -- what holds of each answer holds of the call's: turned away, no room, or the text
    pub by_answer :
        (P : Done → Type 0) → ((n : ℕ) (p : Place) → P (untouched n p r)) → ((es : List Entry) → judgement s ≡ sound es → P (filled (f es) r)) → P (judged_call f s r)
    unfolding judged_call
    by_answer P none full =
        laws.by_answer (text_of f (judgement s)) r P (λ n p e. none n p) (λ t e h. none 14 Nowhere)
        (λ t e. let w = sound_text (judgement s) t e in rw w.2 (full w.0 w.1))

    -- what it answers to a sheet that is turned away, and to a sound one
    pub turned : (n : ℕ) (p : Place) → refusal n p ≡ findings (judgement s) → untouched n p r ≡ judged_call f s r
    unfolding judged_call text_of
    turned n p e = laws.lent_turned _ r (rw (findings_refusal (judgement s) e) refl)

    pub of_lines : {es : List Entry} → judgement s ≡ sound es → {t : List ℕ} → t ≡ f es → lent (bytes t) r ≡ judged_call f s r
    unfolding judged_call text_of
    of_lines q e = ap (λ (x : Text). lent x r) (ap bytes e ∙ sym (ap (text_of f) q))

    -- a refusal has a number
    pub never_0 : Never0 (judged_call f s r).outcome
    unfolding judged_call
    never_0 = laws.never_0 _ r (right_numbers s)

    -- a sheet refused by 14 is a sound one, whose text is longer than the room
    pub refused_by_14 : (p : Place) → (judged_call f s r).outcome ≡ refused 14 p → (p ≡ Nowhere) × TooLong (judged_call f s) (text_of f (judgement s)) r
    unfolding judged_call
    refused_by_14 = laws.refused_by_14 _ r (right_numbers s)

    -- with room for the longest text that it can have, it never answers 14, and what is printed is the judgement's own
    module _ {m : ℕ} (most : (es : List Entry) → judgement s ≡ sound es → length (f es) ≤ m) (room : m ≤ length r) where
      room_for : RoomFor (text_of f (judgement s)) r
      room_for t e = let w = sound_text (judgement s) t e in omega (arith, most w.0 w.1, room, ap length w.2)

      pub never_14 : (p : Place) → (judged_call f s r).outcome ≡ refused 14 p → ⊥
      unfolding judged_call
      never_14 = laws.never_14 _ r (right_numbers s) room_for

      pub printed_text : (a : Result ℕ Refusal) {r' r'' : List ℕ} {g : ℕ} → ◌≡◌ {A = Done} (record { outcome = stated_number a; room = r' }) (judged_call f s r)
          → Shown a g r' r'' → Printed (printout (text_of f (judgement s))) g r r''
      unfolding judged_call
      printed_text = laws.printed_answer _ r room_for
