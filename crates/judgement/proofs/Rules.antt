-- The rules of a judgement by what the tests find, in the order in which they are tested; and what a judgement tells. Assumes nothing.
-- In order: the length, and the lines; rules 12, 16, 17 and 13; what a judgement has to tell; the ledger afterwards.
use Rattle.basics.proofs.Common.{◌≡◌, ℕ, ◌<◌, ◌≤◌, true, false, List, Ok, Err, Result, sym, refl, ap, ◌∙◌, subst, any_to, if_true, if_false, if_lt, if_ge, never}
use Rattle.refusal.specs.Outcome.{rule_number, stated_number}
use Rattle.refusal.specs.declared.Refusal.{Refusal}
use Rattle.refusal.specs.declared.Place.{Place}
use Rattle.refusal.specs.declared.Place.TheVariants as place
use Rattle.sizes.specs.Sizes.{non_participating, blocks}
use Rattle.guideline.specs.Operational.{RO}
use Rattle.guideline.specs.Buffer.{count, sum_k, free, available, buffer}
use Rattle.sheet_length.specs.Measured.{measured}
use Rattle.codes.specs.Codes.{scalar_class}
use Rattle.codes.specs.declared.Code.TheVariants.{Gen}
use Rattle.sheet_line.specs.declared.Entry.{Entry}
use Rattle.places.specs.Entries.{has_line}
use Rattle.order.specs.Reading.{Reading, Reading.complete, Reading.stopped, reading, entries_of, outcome_of}
use Rattle.ledger.specs.Lines.{Holds}
use Rattle.ledger.specs.declared.Ledger.{Ledger}
use Rattle.sheet_reader.specs.Filling.{Filled}
use Rattle.order.proofs.Lines.{all_read}
use Rattle.sheet_blocks.specs.Blocks.{rows_to, dividend_barred}
use Rattle.judgement.specs.Sheet.{sheet_of}
use Rattle.credits.specs.Credits.{credit_above}
use Rattle.judgement.specs.Judgement.{Judgement, Judgement.turned_away, Judgement.sound, rule13, rule17, rule16, rule12, rule_lines, judgement, findings, Findings.refusal, Findings.figures}
use Rattle.judgement.specs.Steps.{LinesOf}
use Rattle.judgement.proofs.Acceptance.{sound_passed}

-- ---- the length, and the lines

module _ (s : List ℕ) where
  -- what a sheet's length turns away
  pub length_refused : (r : Refusal) → measured s ≡ Err r → refusal (rule_number r.0) r.1 ≡ findings (judgement s)
  unfolding judgement findings
  length_refused r e = rw e

  module _ {u : Unit {0}} (w : measured s ≡ Ok u) where
    pub lined : judgement s ≡ rule_lines (reading s)
    unfolding judgement
    lined = rw w

    module _ (a : Result ℕ Refusal) (l : Ledger) (F : Filled (reading s) a l) where
      pub bad_line : (r : Refusal) → a ≡ Err r → refusal (rule_number r.0) r.1 ≡ findings (judgement s)
      unfolding rule_lines findings
      bad_line r e = go (reading s) (sym F.answer ∙ ap stated_number e) ∙ sym (ap findings lined)
        where
          go : (o : Reading) → outcome_of o ≡ stated_number (Err r) → refusal (rule_number r.0) r.1 ≡ findings (rule_lines o)
          go (complete es) c = never (cc)
          go (stopped es k i) c = cc

      -- all lines are good
      module _ (k : ℕ) (e : a ≡ Ok k) where
        read : reading s ≡ complete (entries_of (reading s))
        read = go (reading s) (sym F.answer ∙ ap stated_number e)
          where
            go : (o : Reading) → outcome_of o ≡ stated_number (Ok k) → o ≡ complete (entries_of o)
            go (complete es) c = refl
            go (stopped es n i) c = never (cc)

        pub holds : Holds (entries_of (reading s)) l
        holds = record { tables = F.tables; lines = all_read s }

        pub good_lines : findings (rule12 (entries_of (reading s))) ≡ findings (judgement s)
        unfolding rule_lines
        good_lines = ap findings (sym (lined ∙ ap rule_lines read))

-- ---- rules 12, 16, 17 and 13

module _ (es : List Entry) where
  pub no_scalar : has_line es Gen 0 scalar_class ≡ false → refusal 12 place.Nowhere ≡ findings (rule12 es)
  unfolding rule12 findings
  no_scalar h = sym (ap findings (if_false _ h))

  module _ (h : has_line es Gen 0 scalar_class ≡ true) where
    pub credit_above_lem : any_to (credit_above es) non_participating ≡ true → refusal 16 place.Nowhere ≡ findings (rule12 es)
    unfolding rule12 rule16 findings
    credit_above_lem e = sym (ap findings (if_true _ h ∙ if_true _ e))

    pub credits_pass : any_to (credit_above es) non_participating ≡ false → findings (rule17 es) ≡ findings (rule12 es)
    unfolding rule12 rule16
    credits_pass e = sym (ap findings (if_true _ h ∙ if_false _ e))

  pub dividend_above : any_to (dividend_barred es) blocks ≡ true → refusal 17 place.Nowhere ≡ findings (rule17 es)
  unfolding rule17 findings
  dividend_above e = sym (ap findings (if_true _ e))

  module _ (h : any_to (dividend_barred es) blocks ≡ false) where
    pub credits_above : available (sheet_of es) < free (sheet_of es) → refusal 13 place.Nowhere ≡ findings (rule17 es)
    unfolding rule17 rule13 findings
    credits_above k = sym (ap findings (if_false _ h ∙ if_lt _ k))

    pub passes : free (sheet_of es) ≤ available (sheet_of es) → findings (sound es) ≡ findings (rule17 es)
    unfolding rule17 rule13
    passes k = sym (ap findings (if_false _ h ∙ if_ge _ k))

-- ---- what a judgement has to tell

-- figures that are those of these lines
pub record Figured (es : List Entry) (n : ℕ) (rows : List (ℕ × List ℕ)) (sum ro x : ℕ) : Type 0 where
  pub count_is : n ≡ count (sheet_of es)
  pub rows_are : rows ≡ rows_to es blocks
  pub sum_is : sum ≡ sum_k (sheet_of es).blocks
  pub ro_is : ro ≡ RO (sheet_of es).volumes (sheet_of es).general
  pub buffer_is : x ≡ buffer (sheet_of es)

pub figured : (es : List Entry) {n : ℕ} {rows : List (ℕ × List ℕ)} {sum ro x : ℕ} → Figured es n rows sum ro x
    → figures n rows sum ro x ≡ findings (sound es)
unfolding findings
figured es F = rw (F.count_is, F.rows_are, F.sum_is, F.ro_is, F.buffer_is)

-- a judgement that tells a refusal, and one that tells figures
pub findings_refusal : (j : Judgement) {n : ℕ} {p : Place} → refusal n p ≡ findings j → j ≡ turned_away n p
unfolding findings
findings_refusal (turned_away k q) e = cc
findings_refusal (sound es) e = never (cc)

pub findings_figures : (j : Judgement) {n : ℕ} {rows : List (ℕ × List ℕ)} {sum ro x : ℕ} → figures n rows sum ro x ≡ findings j
    → (es : List Entry) × (j ≡ sound es) × Figured es n rows sum ro x
unfolding findings
findings_figures (turned_away k q) e = never (cc)
findings_figures (sound es) e = (es, refl, record { count_is = cc; rows_are = cc; sum_is = cc; ro_is = cc; buffer_is = cc })

-- ---- the ledger afterwards

-- a refusal promises nothing of them
pub no_lines : (j : Judgement) {n : ℕ} {p : Place} (l : Ledger) → refusal n p ≡ findings j → (refusal n p ≡ findings j) × LinesOf j l
no_lines j l e = (e, λ es q. let t = findings_refusal j e in never (cc))

-- those of good lines hold them
pub lines_held : (s : List ℕ) (l : Ledger) → Holds (entries_of (reading s)) l → LinesOf (judgement s) l
lines_held s l H es q =
    let e : entries_of (reading s) ≡ es = ap entries_of (sound_passed s es q).read in
    subst (λ (x : List Entry). Holds x l) e H
