-- Document 01, 'To the testers': no program that behaves like one of the dummies meets demand 2, and those of which the paper says so don't
-- meet demand 3, whatever else they do. Each call is refuted at a sheet of the computed table. Demand 3 leaves a buffer less than the allowance
-- from the one that is due, either way: of two buffers that meet it, one less the allowance is below the exact buffer, and the other isn't.
-- Assumes nothing.
-- In order: the sheets of the table; demand 2; two buffers that meet demand 3; what a call would have to give for the first block's K in place of
-- each; for the others' amounts left out.
use Rattle.basics.proofs.Common.{◌≡◌, ℕ, ◌+◌, ◌*◌, ◌≤◌, true, List, get_or, Some, sym, refl, ap, ◌∙◌, subst, mul-le-mul_right, arith, dec_le, pick, never}
use Rattle.refusal.specs.Outcome.{Outcome, Outcome.accepted}
use Rattle.guideline.specs.Buffer.{Sheet, buffer, free, CreditsWithin, AcceptedSheet}
use Rattle.accuracy.specs.ExactBuffer.{buffer_at, millionths, allowance}
use Rattle.accuracy.specs.Demand.{BufferDemand}
use Rattle.accuracy.proofs.Demand.{buffer_demand}
use Rattle.report_line.specs.Line.{number_at}
use Rattle.report.specs.Rows.{TOT}
use Rattle.places.specs.Entries.{exists}
use Rattle.sheet_line.specs.declared.Entry.{Entry}
use Rattle.judgement.specs.Sheet.{sheet_of}
use Rattle.judgement.specs.Judgement.{Judgement, Judgement.turned_away, Judgement.sound, judgement}
use Rattle.judgement.proofs.Acceptance.{sound_accepted}
use Rattle.sheet_call.specs.Call.{sheet_call}
use Rattle.sheet_call.specs.Demand.{ReportDemand, Demand3}
use Rattle.dummies.specs.Dummies.{Lent, Call, MeetsContract, MeetsDemand3, TurnsAllAway, ConstantReport, WritesNothing, TooShortAtOnce, FirstFilledIn, filled_in, BufferOfFirst, blanked}
use Rattle.dummies.specs.Dummies.{AlikeButOthers, OthersFilledIn, BufferWithoutOthers, FarAbove, FarBelow}
use Rattle.dummies.specs.Answers.{Amounts, amounts_of, lines_of, Facts, facts_of, Case, Answered, empty, guaranteed, two_blocks, another_second}
use Rattle.dummies.proofs.SmallSheets.{computed}

-- a sheet whose amounts are read has been judged to be sound
sound_lines : (j : Judgement) → 1 ≤ (amounts_of j).allowance → (es : List Entry) × (j ≡ sound es)
sound_lines (turned_away n p) h = absurd (omega arith)
sound_lines (sound es) h = (es, refl)

-- and its lines are those that the case says
judged : (a : Case) → Answered a → 1 ≤ a.facts.amounts.allowance → judgement a.sheet ≡ sound a.facts.lines
judged a e h =
    let j = sound_lines (judgement a.sheet) (omega (arith, ap (λ (f : Facts). f.amounts.allowance) e)) in
    j.1 ∙ ap sound (sym (ap lines_of j.1) ∙ ap (λ (f : Facts). f.lines) e)

-- two sheets that differ in the amount of the second block alone
seconds : AlikeButOthers two_blocks.sheet another_second.sheet two_blocks.facts.lines another_second.facts.lines
unfolding blanked exists pick
seconds =
    record {
      one = judged two_blocks computed.two (omega arith);
      other = judged another_second computed.another (omega arith);
      first = refl;
      same = refl;
    }

module _ (call : Call) (meets : MeetsContract call) where
  -- what the call gives for a row of bytes
  record At (a : Case) : Type 0 where
    lent : Lent a.sheet a.lent
    facts : facts_of a.sheet a.lent (call a.sheet a.lent) ≡ a.facts
    outcome : (call a.sheet a.lent).outcome ≡ a.facts.outcome

  at : (a : Case) → a.facts.bytes ≡ true → Answered a → At a
  at a b e =
      let l = ap (λ (f : Facts). f.bytes) e ∙ b in
      let f = ap (facts_of a.sheet a.lent) (meets a.sheet a.lent l) ∙ e in
      record { lent = l; facts = f; outcome = ap (λ (f : Facts). f.outcome) f }

  pub turns_all_away : TurnsAllAway call → ⊥
  turns_all_away away =
      let e = at empty refl computed.no_block in
      never (cc (away empty.sheet empty.lent e.lent).2)

  pub constant_report : ConstantReport call → ⊥
  constant_report constant =
      let e = at empty refl computed.no_block in
      let f = at guaranteed refl computed.guarantee_alone in
      let c = constant empty.sheet guaranteed.sheet empty.lent _ _ e.lent f.lent e.outcome f.outcome in
      let z : ◌≡◌ {A = ℕ} 0 2 = cc (c, ap (λ (x : Facts). x.buffer) e.facts, ap (λ (x : Facts). x.buffer) f.facts) in
      omega arith

  pub writes_nothing : WritesNothing call → ⊥
  writes_nothing same =
      let e = at empty refl computed.no_block in
      let c = same empty.sheet empty.lent _ e.lent e.outcome in
      omega (arith, sym (ap (λ (x : Facts). x.head) e.facts) ∙ ap (λ (l : List ℕ). get_or l 0 0) c)

  pub too_short_at_once : TooShortAtOnce call → ⊥
  too_short_at_once short = turns_all_away (λ s r l. (14, (short s r l).0, (short s r l).1))

  -- 'breaks demand 2 at the second K'
  pub first_filled_in : FirstFilledIn call → ⊥
  first_filled_in filled =
      let e = at two_blocks refl computed.two in
      let k₁ = ap (λ (x : Facts). x.k₁) e.facts in
      let k₂ = ap (λ (x : Facts). x.k₂) e.facts in
      omega (arith, filled two_blocks.sheet two_blocks.lent 100 200 e.lent (cc k₁) (cc k₂))

  -- K of the second block is 200, and 300 beside the same first block
  pub others_filled_in : OthersFilledIn call → ⊥
  others_filled_in filled =
      let e = at two_blocks refl computed.two in
      let f = at another_second refl computed.another in
      let k = ap (λ (x : Facts). x.k₂) e.facts in
      let m = ap (λ (x : Facts). x.k₂) f.facts in
      omega (arith, filled two_blocks.sheet another_second.sheet two_blocks.lent _ _ 2 200 300 e.lent f.lent seconds (omega arith) (cc k) (cc m))

module _ (s : Sheet) (v : AcceptedSheet s) where
  -- two buffers that meet demand 3 are less than the allowance apart
  apart : (x z : ℕ) → millionths * x + allowance s ≤ millionths * z → BufferDemand s x → BufferDemand s z → ⊥
  apart x z h d e =
      let n = e.near in
      d.at (record { choice = n.choice; below = omega (arith, n.below, mul-le-mul_right (buffer_at s n.choice).denominator h) })

  -- 'A huge 'safe' buffer breaks demand 3 from above'
  pub huge_buffer : (x : ℕ) → FarAbove s x → BufferDemand s x → ⊥
  huge_buffer x h d = apart (buffer s) x (omega arith) (buffer_demand s v) d

  -- a buffer far too low breaks it from below
  pub low_buffer : (x : ℕ) → FarBelow s x → BufferDemand s x → ⊥
  low_buffer x h d = apart x (buffer s) (omega arith) d (buffer_demand s v)

-- the same as `FarBelow`, of a sheet's amounts and the buffer with the first block in place of each
abbrev Below : Amounts → Type 0
Below a = millionths * a.filled_in + a.allowance ≤ millionths * a.buffer

-- of two sheets' amounts, that the second buffer is both allowances or more above the first
abbrev FarApart : Amounts → Amounts → Type 0
FarApart a c = millionths * a.buffer + a.allowance + c.allowance ≤ millionths * c.buffer

-- the amounts of a case's lines
amounts_are : (a : Case) → Answered a → judgement a.sheet ≡ sound a.facts.lines → amounts_of (sound a.facts.lines) ≡ a.facts.amounts
amounts_are a e j = sym (ap amounts_of j) ∙ ap (λ (f : Facts). f.amounts) e

-- 'and demand 3 by its bounds'
module _ (call : Call) (meets : MeetsDemand3 call) where
  -- the buffer that is read off what it accepts meets the demand
  given :
      (s r vs : List ℕ) (es : List Entry) → Lent s r → judgement s ≡ sound es → (call s r).outcome ≡ accepted vs →
      (x : ℕ) × (number_at (call s r).room TOT 0 3 ≡ Some x) × BufferDemand (sheet_of es) x
  given s r vs es l j a =
      let d = subst (λ (o : Outcome). Demand3 s o (call s r).room) a (meets s r l) in
      let q : d.0 ≡ es = cc d.1 in
      let t = subst (λ (es : List Entry). ReportDemand es (call s r).room) q d.2 in
      (t.buffer, t.reads_buffer, t.accurate)

  -- the buffer that it gives a sheet would have to be near the one that is due
  pub filled_in_near :
      BufferOfFirst call → (s r vs : List ℕ) (es : List Entry) → Lent s r → judgement s ≡ sound es → CreditsWithin (filled_in (sheet_of es)) →
      (sheet_call s r).outcome ≡ accepted vs →
      (FarBelow (sheet_of es) (buffer (filled_in (sheet_of es))) → ⊥) × (FarAbove (sheet_of es) (buffer (filled_in (sheet_of es))) → ⊥)
  filled_in_near filled s r vs es l j c e =
      let a = filled.accepts s r vs es l j (omega arith) e in
      let t = given s r vs es l j a in
      let n : t.0 ≡ buffer (filled_in (sheet_of es)) = cc (t.1, filled.reads_buffer s r vs es l j a) in
      let v = sound_accepted s es j in
      let b = subst (BufferDemand (sheet_of es)) n t.2 in
      ((λ h. low_buffer _ v _ h b), (λ h. huge_buffer _ v _ h b))

  -- of two blocks with a K of 100 and of 200 the buffer is 300, and 200 with the first in place of both
  pub first_filled_in_buffer : BufferOfFirst call → ⊥
  first_filled_in_buffer filled =
      let a = ap (λ (f : Facts). f.amounts) computed.two in
      let j = sound_lines (judgement two_blocks.sheet) (omega (arith, ap (λ (m : Amounts). m.allowance) a)) in
      let m = sym (ap amounts_of j.1) ∙ a in
      let within : CreditsWithin (filled_in (sheet_of j.0)) = omega (arith, ap (λ (m : Amounts). m.credits) m) in
      (filled_in_near filled two_blocks.sheet two_blocks.lent _ j.0 (ap (λ (f : Facts). f.bytes) computed.two) j.1 within
      (ap (λ (f : Facts). f.outcome) computed.two)).0 (subst Below (sym m) (omega arith))

  -- of two sheets that such a program can't tell apart the buffers that are due would have to be less than both allowances apart
  pub others_near :
      BufferWithoutOthers call → (s t r vs ws : List ℕ) (es fs : List Entry) → Lent s r → Lent t r → AlikeButOthers s t es fs →
      (sheet_of es).CRᵢ + free (sheet_of es) ≡ 0 → (sheet_of fs).CRᵢ + free (sheet_of fs) ≡ 0 →
      (sheet_call s r).outcome ≡ accepted vs → (sheet_call t r).outcome ≡ accepted ws →
      millionths * buffer (sheet_of es) + allowance (sheet_of es) + allowance (sheet_of fs) ≤ millionths * buffer (sheet_of fs) → ⊥
  others_near blind s t r vs ws es fs l m alike c d e f h =
      let a = blind.accepts s r vs es l alike.one c e in
      let b = blind.accepts t r ws fs m alike.other d f in
      let x = given s r vs es l alike.one a in
      let z = given t r ws fs m alike.other b in
      let q : x.0 ≡ z.0 = cc (x.1, z.1, blind.same_buffer s t r vs ws es fs l m alike a b) in
      let high : FarAbove (sheet_of es) x.0 → ⊥ = λ o. huge_buffer _ (sound_accepted s es alike.one) _ o x.2 in
      let low : FarBelow (sheet_of fs) z.0 → ⊥ = λ o. low_buffer _ (sound_accepted t fs alike.other) _ o z.2 in
      elim (dec_le (millionths * buffer (sheet_of es) + allowance (sheet_of es)) (millionths * x.0)) [
        | yes o ↦ high o
        | no o ↦ low (omega (arith, q))
      ]

  -- the buffer is 300, and 400 beside the same first block
  pub others_filled_in_buffer : BufferWithoutOthers call → ⊥
  others_filled_in_buffer blind =
      let m = amounts_are two_blocks computed.two seconds.one in
      let n = amounts_are another_second computed.another seconds.other in
      let none = λ (a c : Amounts) (e : a ≡ c) (z : c.credits ≡ 0). subst (λ (x : Amounts). x.credits ≡ 0) (sym e) z in
      let far : FarApart two_blocks.facts.amounts another_second.facts.amounts = omega arith in
      let e = ap (λ (f : Facts). f.bytes) computed.two in
      let f = ap (λ (f : Facts). f.bytes) computed.another in
      others_near blind two_blocks.sheet another_second.sheet two_blocks.lent _ _ _ _ e f seconds (none _ _ m refl) (none _ _ n refl)
      (ap (λ (f : Facts). f.outcome) computed.two) (ap (λ (f : Facts). f.outcome) computed.another)
      (subst (λ (a : Amounts). FarApart a (amounts_of (sound another_second.facts.lines))) (sym m)
      (subst (λ (a : Amounts). FarApart two_blocks.facts.amounts a) (sym n) far))
