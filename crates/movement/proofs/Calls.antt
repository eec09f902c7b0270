-- What the call gives: by the input's length, then by its lines, then by what the block call says. What an accepted call has written meets the
-- theorem of one moved input, and the room has the length of the lines. Assumes nothing.
-- In order: rule by rule; the text of an input that is accepted; the numbers of its refusals; the theorem, of the lines that were written.
use Rattle.basics.proofs.Common.{◌≡◌, ℕ, zero, suc, ◌+◌, ◌-◌, ◌*◌, ◌^◌, ◌<◌, ◌≤◌, List, [], ◌∷◌, ◌++◌, length, take, drop, nat_abs, Result, sym, refl, ap, ◌∙◌, subst, append_assoc, lt_of_not-le}
use Rattle.basics.proofs.Common.{arith, take_at, drop_at, ltb-true, subst⁻¹, dec_le, dec_lt, sub_ℕ, if_eq, if_ne, if_lt, if_ge, by_test, never}
use Rattle.integer.proofs.Integer.{above, below}
use Rattle.integer.proofs.Difference.{less_diff}
use Rattle.refusal.specs.Outcome.{Outcome, Outcome.accepted, Outcome.refused, Judging, judging, printed, stated_number}
use Rattle.refusal.specs.declared.Place.{Place, TheVariants.Line, TheVariants.Nowhere}
use Rattle.amount.specs.Amount.{limit}
use Rattle.amount.proofs.Amounts.{all_within}
use Rattle.sizes.specs.Sizes.{risks, block_numbers, number_columns, FitsColumns}
use Rattle.guideline.specs.Block.{ir, K, AcceptedBlock}
use Rattle.guideline.proofs.Figures.{u_fits, k_high}
use Rattle.sensitivity.specs.Movement.{raised}
use Rattle.sensitivity.proofs.Movement.{block_moves, raised_accepted}
use Rattle.block.specs.Call.{first_lt_above, rule8, rule9, block_call}
use Rattle.block.proofs.Rules.{past_7}
use Rattle.block.proofs.Acceptance.{accepts_block}
use Rattle.report_line.specs.Line.{report_line_bytes}
use Rattle.refusal.specs.declared.Refusal.{Refusal}
use Rattle.text_answer.specs.Lent.{Text, Text.no_text, Text.bytes, Done, untouched}
use Rattle.text_answer.specs.Printing.{printout, Printed, Shown}
use Rattle.text_answer.proofs.LentRoom as lent
use Rattle.text_answer.proofs.LentRoom.{RoomFor}
use Rattle.movement_input.specs.Reading.{input_bytes, input_lines, lines_kept, block_of, raise_of}
use Rattle.movement.specs.Call.{risk_line, risk_lines, after_block, rule3, movements, movement_call}
use Rattle.movement.specs.Bounds.{Moved, MovementsBounded}
use Rattle.movement_input.proofs.Numbers.{length_numbers, numbers_within}
use Rattle.movement.proofs.Lines.{length_lines, length_risk_line}

-- ---- rule by rule

module _ (s r : List ℕ) where
  pub wrong_length : (length s ≡ input_bytes → ⊥) → untouched 2 Nowhere r ≡ movement_call s r
  unfolding movement_call movements
  wrong_length n = lent.lent_turned _ r (if_ne _ n)

  module _ (whole : length s ≡ input_bytes) where
    pub broken_line : {k : ℕ} → (k ≡ lines_kept s) × (k < input_lines) → untouched 3 (Line (k + 1)) r ≡ movement_call s r
    unfolding movement_call movements rule3
    broken_line (e, h) =
        let l : lines_kept s < input_lines = omega arith in
        lent.lent_turned _ r (if_eq _ whole ∙ if_lt _ l ∙ ap (λ (n : ℕ). no_text 3 (Line (n + 1))) (sym e))

    module _ (kept : input_lines ≤ lines_kept s) where
      by_block : movements s ≡ after_block (block_of s) (raise_of s) (block_call (block_of s))
      unfolding movements rule3
      by_block = if_eq _ whole ∙ if_ge _ kept

      pub block_refused : {n : ℕ} {p : Place} → refused n p ≡ block_call (block_of s) → untouched n p r ≡ movement_call s r
      unfolding movement_call
      block_refused q = lent.lent_turned _ r (by_block ∙ ap (after_block (block_of s) (raise_of s)) (sym q))

      module _ {vs : List ℕ} (q : accepted vs ≡ block_call (block_of s)) where
        says_lines : movements s ≡ bytes (risk_lines (block_of s) (raise_of s) risks)
        says_lines = by_block ∙ ap (after_block (block_of s) (raise_of s)) (sym q)

        long : report_line_bytes * risks ≡ length (risk_lines (block_of s) (raise_of s) risks)
        long = sym (length_lines (block_of s) (raise_of s) risks)

        pub no_room : length r < report_line_bytes * risks → untouched 14 Nowhere r ≡ movement_call s r
        unfolding movement_call
        no_room = lent.lent_short _ r says_lines long

        pub lines_answered :
            report_line_bytes * risks ≤ length r → {b r' : List ℕ} {t : ℕ} → b ≡ block_of s → t ≡ raise_of s →
            r' ≡ risk_lines b t risks ++ drop (report_line_bytes * risks) r →
            ◌≡◌ {A = Done} (record { outcome = accepted (report_line_bytes * risks ∷ []); room = r' }) (movement_call s r)
        unfolding movement_call
        lines_answered h b-is t-is e =
            lent.lent_filled _ r says_lines long h (e ∙ (λ i. risk_lines (b-is i) (t-is i) risks ++ drop (report_line_bytes * risks) r))

-- ---- the text of an input that is accepted

record AcceptedText (s t : List ℕ) : Type 0 where
  block : AcceptedBlock (block_of s)
  text : t ≡ risk_lines (block_of s) (raise_of s) risks

accepted_text : (s t : List ℕ) → movements s ≡ bytes t → AcceptedText s t
unfolding movements rule3
accepted_text s t =
    by_test (λ (x : Text). x ≡ bytes t → AcceptedText s t) _ _ _
    (λ h. by_test (λ (x : Text). x ≡ bytes t → AcceptedText s t) _ _ _ (λ l q. never (cc)) (λ l. after (block_call (block_of s)) refl))
    (λ h q. never (cc))
  where
    after : (o : Outcome) → block_call (block_of s) ≡ o → after_block (block_of s) (raise_of s) o ≡ bytes t → AcceptedText s t
    after (refused n p) e q = never (cc)
    after (accepted vs) e q = record { block = ((accepts_block (block_of s)).accepted_only vs e).1; text = cc }

-- a room that has the length of the lines, or more
pub room_for : (s r : List ℕ) → report_line_bytes * risks ≤ length r → RoomFor (movements s) r
room_for s r long t e = omega (arith, long, ap length (accepted_text s t e).text, length_lines (block_of s) (raise_of s) risks)

-- ---- the numbers of its refusals

-- of what the block call refuses 17 numbers by: a rule's number that is not 7, and a position that a line has the columns for
unfoldable Refusing : Outcome → Type 0
Refusing (accepted vs) = Unit {0}
Refusing (refused n p) = (n ≡ 7 → ⊥) × Judging n × FitsColumns (printed p)

-- the amounts of 14 columns are within the limit, so that rule 7 finds none
refusing : (s : List ℕ) → Refusing (block_call (block_of s))
unfolding Refusing rule8 rule9
refusing s =
    let b = block_of s in
    let long = length_numbers s block_numbers in
    subst⁻¹ Refusing (past_7 b (omega (arith, long, all_within b (numbers_within s block_numbers))))
    (by_test Refusing _ _ _
    (λ e. by_test Refusing _ _ _ (λ l. (λ q. omega arith, judging 9 refl refl refl, omega (arith, ltb-true (first_lt_above b) risks l))) (λ l. tt))
    (λ e. (λ q. omega arith, judging 8 refl refl refl, omega arith)))

-- each refusal has a rule's number, never 7, and its place fits the columns of a line
pub right_numbers : (s : List ℕ) (n : ℕ) (p : Place) → movements s ≡ no_text n p → (n ≡ 7 → ⊥) × Judging n × FitsColumns (printed p)
unfolding movements rule3 Refusing
right_numbers s n p =
    by_test Right _ _ _
    (λ h. by_test Right _ _ _
    (λ l q. by_rule 3 (Line (lines_kept s + 1)) q (λ z. omega arith, judging 3 refl refl refl, omega (arith, ltb-true (lines_kept s) input_lines l)))
    (λ l. after (block_call (block_of s)) (refusing s)))
    (λ h q. by_rule 2 Nowhere q (λ z. omega arith, judging 2 refl refl refl, omega arith))
  where
    Right : Text → Type 0
    Right x = x ≡ no_text n p → Refusing (refused n p)

    by_rule : (m : ℕ) (o : Place) → no_text m o ≡ no_text n p → Refusing (refused m o) → Refusing (refused n p)
    by_rule m o q w = let e : refused m o ≡ refused n p = cc in subst Refusing e w

    after : (o : Outcome) → Refusing o → Right (after_block (block_of s) (raise_of s) o)
    after (refused m o) w q = by_rule m o q w
    after (accepted vs) w q = never (cc)

-- ---- the theorem, of the lines that were written

-- the line of the risk behind k others
line_at : (b : List ℕ) (t k n : ℕ) → k < n → (rest : List ℕ) → take report_line_bytes (drop (report_line_bytes * k) (risk_lines b t n ++ rest)) ≡ risk_line b t (suc k)
unfolding risk_lines
line_at b t k zero h rest = absurd (omega arith)
line_at b t k (suc n) h rest =
    rw (append_assoc)
    (elim (dec_lt k n) [
      | yes l ↦ line_at b t k n l (risk_line b t (suc n) ++ rest)
      | no l ↦
          let e : k ≡ n = omega arith in
          rw (e, drop_at (risk_lines b t n) (risk_line b t (suc n) ++ rest) (report_line_bytes * n) (length_lines b t n))
          (take_at (risk_line b t (suc n)) rest report_line_bytes (length_risk_line b t (suc n)))
    ])

apart : (m n t : ℕ) → m < n + t → n < m + t → nat_abs (sub_ℕ m n) < t
apart m n t h k = elim (dec_le n m) [ yes l ↦ rw (above l) (omega arith) | no l ↦ rw (below (lt_of_not-le l)) (omega arith) ]

k_fits : (b : List ℕ) → AcceptedBlock b → K b < 10 ^ (number_columns - 1)
k_fits b v = omega (arith, k_high b v, u_fits b v)

module _ (b : List ℕ) (t : ℕ) (long : length b ≡ block_numbers) (v : AcceptedBlock b) where
  pub moved : (k : ℕ) → k < risks → ir b (suc k) + t ≤ limit → (rest : List ℕ) → Moved b t k (risk_lines b t risks ++ rest)
  unfolding risk_line
  moved k h w rest =
      let c = raised b (suc k) t in
      let a = raised_accepted b long t (suc k) (omega arith) (omega arith) v w in
      let m = block_moves b (suc k) t (omega arith) (omega arith) v a in
      let d = less_diff (K c) (K b) in
      record {
        still_accepted = a;
        moves = m;
        line = line_at b t k risks h rest ∙ if_ge _ w;
        within = omega (arith, ap nat_abs d, apart (K c) (K b) (t + 2) (omega (arith, m.reported_rises)) (omega (arith, m.reported_falls)));
        fits = rw d (apart (K c) (K b) (10 ^ (number_columns - 1)) (omega (arith, k_fits c a)) (omega (arith, k_fits b v)));
      }

module _ (s r : List ℕ) where
  bounded : MovementsBounded s (movement_call s r).outcome (movement_call s r).room
  unfolding movement_call
  bounded =
      lent.by_answer (movements s) r (λ d. MovementsBounded s d.outcome d.room) (λ n p e. tt) (λ t e h. tt)
      (λ t e.
      let w = accepted_text s t e in
      rw w.text (λ k h l. moved (block_of s) (raise_of s) (length_numbers s block_numbers) w.block k h l _))

  -- what the call gives, and how far K moves
  pub promised : (d : Done) → d ≡ movement_call s r → record { answer : d ≡ movement_call s r; bounded : MovementsBounded s d.outcome d.room }
  promised d e = record { answer = e; bounded = subst⁻¹ (λ (x : Done). MovementsBounded s x.outcome x.room) e bounded }

-- what is printed is the lines, or the line of the refusal: the room that the call leaves is as long as it was
pub printed_movements :
    (s r : List ℕ) (a : Result ℕ Refusal) {r' r'' : List ℕ} {g : ℕ} → report_line_bytes * risks ≤ length r' →
    ◌≡◌ {A = Done} (record { outcome = stated_number a; room = r' }) (movement_call s r) → Shown a g r' r'' → Printed (printout (movements s)) g r r''
unfolding movement_call
printed_movements s r a long e =
    let same = ap (λ (d : Done). length d.room) e ∙ lent.lent_long (movements s) r in
    lent.printed_answer _ r (room_for s r (omega (arith, same, long))) a e
