-- The plainest program of each kind of dummy meets the premise of its kind: four by what they give. The one that fills in the first block
-- refuses by rules 17 and 13 of its own sum of K and else as the sheet call does, and what is read of its report is in FilledSheets.
-- Assumes nothing.
-- In order: the four that are met by what they give; the one that fills in the first block; the one that doesn't see the others' lines.
use Rattle.basics.proofs.Common.{◌≡◌, ℕ, zero, suc, ◌+◌, Bool, true, false, List, [], ◌∷◌, map, length, sym, refl, ap, ◌∙◌, arith, length-append, length-drop, ltb-false, ascending, pick, if_ge}
use Rattle.basics.proofs.Common.{by_test}
use Rattle.sizes.specs.Sizes.{blocks}
use Rattle.places.specs.Entries.{exists}
use Rattle.report.specs.Rows.{BLK, TOT, report_length}
use Rattle.report_line.specs.Line.{number_at}
use Rattle.sheet_blocks.specs.Blocks.{blocks_to}
use Rattle.refusal.specs.declared.Place.TheVariants.{Nowhere}
use Rattle.guideline.specs.Buffer.{buffer, CreditsWithin}
use Rattle.sheet_line.specs.declared.Entry.{Entry}
use Rattle.judgement.specs.Sheet.{sheet_of}
use Rattle.judgement.specs.Judgement.{Judgement, Judgement.turned_away, Judgement.sound, judgement}
use Rattle.judgement.proofs.Acceptance.{sound_accepted}
use Rattle.text_answer.specs.Lent.{Done, rule14, lent}
use Rattle.sheet_answer.specs.Judged.{text_of, judged_call}
use Rattle.sheet_call.specs.Call.{report_of, sheet_call}
use Rattle.sheet_call.proofs.Rows as sheet_call
use Rattle.dummies.specs.Dummies.{TurnsAllAway, ConstantReport, WritesNothing, TooShortAtOnce, claimed_report, FirstFilledIn, filled_in, BufferOfFirst, blanked, AlikeButOthers, OthersFilledIn}
use Rattle.dummies.specs.Dummies.{BufferWithoutOthers}
use Rattle.dummies.specs.Programs.{turns_away, writes_constant, claims_success, says_too_short, filled_report, filled17, filled13, after_filling, fills_in, sees_first}
use Rattle.dummies.proofs.FilledSheets.{SameK, Reads, none_read, none_accepted, report_long, k_same, reads_filled}

pub turns_away_met : TurnsAllAway turns_away
turns_away_met s r l = (12, Nowhere, refl)

pub constant_met : (bytes : List ℕ) → ConstantReport (writes_constant bytes)
constant_met bytes s t r vs ws l m e f = refl

-- its bytes stay within the room
pub constant_within : (bytes s r : List ℕ) → length (writes_constant bytes s r).room ≡ length r
constant_within bytes s r =
    by_test (λ (d : Done). length d.room ≡ length r) _ _ _ (λ t. refl)
    (λ t. simp (length-append, length-drop) (omega (arith, ltb-false (length r) (length bytes) t)))

pub nothing_met : WritesNothing claims_success
nothing_met s r vs l e = refl

pub too_short_met : TooShortAtOnce says_too_short
too_short_met s r l = (Nowhere, refl)

-- ---- the one that fills in, whatever the judgement

picked_outcome : (t : Bool) (a b c : Done) → b.outcome ≡ c.outcome → (pick t a b).outcome ≡ (pick t a c).outcome
unfolding pick
picked_outcome true a b c e = refl
picked_outcome false a b c e = e

-- of a report rule 14 sees the length alone
same_outcome : (t u r : List ℕ) → length t ≡ length u → (rule14 t r).outcome ≡ (rule14 u r).outcome
same_outcome t u r e = rw e (picked_outcome _ _ _ _ refl)

module _ (s r : List ℕ) where
  same : (j : Judgement) → judgement s ≡ j → SameK (after_filling j r)
  unfolding after_filling filled17 filled13
  same (turned_away n p) e = none_read n p r
  same (sound es) e =
      by_test SameK _ _ _ (λ d. none_read _ _ r) λ d.
      by_test SameK _ _ _ (λ t. none_read _ _ r) λ t.
      by_test SameK _ _ _ (λ u. none_read _ _ r) (λ u. k_same es (sound_accepted s es e) (ltb-false _ _ d, ltb-false _ _ t) r)

  reads : (es : List Entry) → judgement s ≡ sound es → Reads (buffer (filled_in (sheet_of es))) (fills_in s r)
  unfolding fills_in after_filling filled17 filled13
  reads es e =
      let x = buffer (filled_in (sheet_of es)) in
      rw e
      (by_test (Reads x) _ _ _ (λ d. none_accepted x _ _ r) λ d.
      by_test (Reads x) _ _ _ (λ t. none_accepted x _ _ r) λ t.
      by_test (Reads x) _ _ _ (λ u. none_accepted x _ _ r) (λ u. reads_filled es (sound_accepted s es e) (ltb-false _ _ d, ltb-false _ _ t) r))

  -- it tests rule 14 as the sheet call does
  outcome_same :
      (es : List Entry) → judgement s ≡ sound es → CreditsWithin (filled_in (sheet_of es)) → (fills_in s r).outcome ≡ (sheet_call s r).outcome
  unfolding fills_in after_filling filled17 filled13 judged_call text_of lent
  outcome_same es e h =
      let long = report_long es (sound_accepted s es e) h ∙ sym (sheet_call.report_long es) in
      rw (e, if_ge _ h.0, if_ge _ h.1) (same_outcome (filled_report es) (report_of es) r long)

pub first_filled_in_met : FirstFilledIn fills_in
unfolding SameK fills_in
first_filled_in_met s r k₁ k₂ l e f = same s r (judgement s) refl k₁ k₂ e f

pub buffer_of_first_met : BufferOfFirst fills_in
unfolding Reads
buffer_of_first_met =
    record { accepts = λ s r vs es l j h e. outcome_same s r es j (omega arith) ∙ e; reads_buffer = λ s r vs es l j e. reads s r es j vs e }

-- ---- the one that doesn't see the others' lines

-- a line keeps its code and block
code_kept : (e : Entry) → (blanked e).code ≡ e.code
unfolding blanked
code_kept e = by_test (λ (f : Entry). f.code ≡ e.code) _ _ _ (λ t. refl) (λ t. refl)

block_kept : (e : Entry) → (blanked e).block ≡ e.block
unfolding blanked
block_kept e = by_test (λ (f : Entry). f.block ≡ e.block) _ _ _ (λ t. refl) (λ t. refl)

-- so the same blocks exist
exist_too : (es : List Entry) (b : ℕ) → exists (map blanked es) b ≡ exists es b
unfolding exists
exist_too [] b = refl
exist_too (e ∷ es) b = rw (code_kept e, block_kept e, exist_too es b) refl

-- as many numbers pass, whatever each gives
as_many :
    (p q : ℕ → Bool) (f g : ℕ → List ℕ) → ((b : ℕ) → p b ≡ q b) → (n : ℕ) →
    length (ascending p (λ b. f b ∷ []) n) ≡ length (ascending q (λ b. g b ∷ []) n)
unfolding ascending pick
as_many p q f g h zero = refl
as_many p q f g h (suc n) =
    rw (h (suc n), length-append, length-append, as_many p q f g h n)
    (ap (λ (k : ℕ). length (ascending q (λ b. g b ∷ []) n) + k) (one (q (suc n))))
  where
    one : (t : Bool) → length (pick t (f (suc n) ∷ []) []) ≡ length (pick t (g (suc n) ∷ []) [])
    one true = refl
    one false = refl

blanked_long : (es : List Entry) → length (report_of (map blanked es)) ≡ length (report_of es)
unfolding sheet_of blocks_to
blanked_long es =
    sheet_call.report_long (map blanked es) ∙ ap report_length (as_many _ _ _ _ (exist_too es) blocks) ∙ sym (sheet_call.report_long es)

-- what such a program gives for two sheets that differ in nothing that it sees is the same
seen_alike : (f : List Entry → List ℕ) (s t r : List ℕ) (es fs : List Entry) → AlikeButOthers s t es fs → sees_first f s r ≡ sees_first f t r
unfolding judged_call text_of
seen_alike f s t r es fs a = rw (a.one, a.other, a.same) refl

-- whatever its report
pub others_filled_in_met : (f : List Entry → List ℕ) → OthersFilledIn (sees_first f)
others_filled_in_met f s t r es fs b k m l n a h e g = cc (e, g, ap (λ (d : Done). number_at (claimed_report d) BLK b 5) (seen_alike f s t r es fs a))

-- with zeros in place of the others' amounts it accepts what the sheet call does
outcome_kept : (s r : List ℕ) (es : List Entry) → judgement s ≡ sound es → (sees_first report_of s r).outcome ≡ (sheet_call s r).outcome
unfolding judged_call text_of lent
outcome_kept s r es j = rw j (same_outcome (report_of (map blanked es)) (report_of es) r (blanked_long es))

pub buffer_without_others_met : BufferWithoutOthers (sees_first report_of)
buffer_without_others_met =
    record {
      accepts = λ s r vs es l j c e. outcome_kept s r es j ∙ e;
      same_buffer = λ s t r vs ws es fs l m a d e. ap (λ (d : Done). number_at d.room TOT 0 3) (seen_alike report_of s t r es fs a);
    }
