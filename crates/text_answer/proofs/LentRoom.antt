-- A call with lent room has three answers: its input is turned away, the room is too short, or there is the text. What holds of each holds of the
-- call; and with room for the text, what is printed is the text or the line of the refusal. Assumes nothing.
-- In order: the three answers; the numbers of its refusals; what is printed, with room for the text.
use Rattle.basics.proofs.Common.{◌≡◌, ℕ, ◌^◌, ◌<◌, ◌≤◌, List, [], ◌∷◌, ◌++◌, length, drop, Ok, Err, Result, sym, refl, ap, ◌∙◌, subst, arith, length-append, length-drop, ltb-false, ltb-true, subst⁻¹}
use Rattle.basics.proofs.Common.{if_lt, if_ge, by_test, never}
use Rattle.refusal.specs.Outcome.{Outcome, Outcome.accepted, Outcome.refused, Never0, Judging, printed, rule_number, stated_number}
use Rattle.refusal.specs.declared.Place.{Place, TheVariants.Nowhere}
use Rattle.refusal.specs.declared.Refusal.{Refusal}
use Rattle.sizes.specs.Sizes.{number_columns, FitsColumns}
use Rattle.field.specs.Field.{leading_digits, decimal}
use Rattle.field.proofs.Inverse.{read_back}
use Rattle.key_columns.specs.Key.{key}
use Rattle.report_line.specs.Line.{line_in}
use Rattle.report_line.proofs.Readback.{PrintableIn, Printable}
use Rattle.text_answer.specs.Lent.{Text, Text.no_text, Text.bytes, Done, TooLong, untouched, lent}
use Rattle.text_answer.specs.Printing.{refusal_row, refusal_line, ReadsRefusal, printout, Printed, Shown}

-- a text in front of the room
abbrev pub filled : List ℕ → List ℕ → Done
filled t r = record { outcome = accepted (length t ∷ []); room = t ++ drop (length t) r }

module _ (x : Text) (r : List ℕ) where
  -- what holds of each answer holds of the call's: turned away, no room, or the text
  pub by_answer :
      (P : Done → Type 0) → ((n : ℕ) (p : Place) → x ≡ no_text n p → P (untouched n p r)) →
      ((t : List ℕ) → x ≡ bytes t → length r < length t → P (untouched 14 Nowhere r)) → ((t : List ℕ) → x ≡ bytes t → P (filled t r)) → P (lent x r)
  unfolding lent
  by_answer P turned short full = go x refl
    where
      go : (y : Text) → x ≡ y → P (lent y r)
      go (no_text n p) e = turned n p e
      go (bytes t) e = by_test P _ _ _ (λ u. short t e (ltb-true _ _ u)) (λ u. full t e)

  -- the room stays as long as it was
  pub lent_long : length (lent x r).room ≡ length r
  unfolding lent
  lent_long = go x
    where
      go : (y : Text) → length (lent y r).room ≡ length r
      go (no_text n p) = refl
      go (bytes t) =
          by_test (λ (d : Done). length d.room ≡ length r) _ _ _ (λ u. refl)
          (λ u. length-append t (drop (length t) r) ∙ omega (arith, length-drop (length t) r, ltb-false (length r) (length t) u))

  -- each answer by itself
  pub lent_turned : {n : ℕ} {p : Place} → x ≡ no_text n p → untouched n p r ≡ lent x r
  unfolding lent
  lent_turned e = rw e

  module _ {t : List ℕ} (e : x ≡ bytes t) {m : ℕ} (l : m ≡ length t) where
    pub lent_short : length r < m → untouched 14 Nowhere r ≡ lent x r
    unfolding lent
    lent_short h = let k : length r < length t = omega (arith, h, l) in rw e (sym (if_lt _ k))

    pub lent_filled : m ≤ length r → {r' : List ℕ} → r' ≡ t ++ drop m r → ◌≡◌ {A = Done} (record { outcome = accepted (m ∷ []); room = r' }) (lent x r)
    unfolding lent
    lent_filled h q =
        let w = q ∙ ap (λ (k : ℕ). t ++ drop k r) l in
        let k : length t ≤ length r = omega (arith, h, l) in
        rw e ((λ i. record { outcome = accepted (l i ∷ []); room = w i }) ∙ sym (if_ge _ k))

-- ---- the numbers of its refusals

-- a line has the columns for a refusal whose number has two digits, where its place fits
pub refusal_row_fits : (w n : ℕ) (p : Place) → n < 100 → printed p < 10 ^ w → PrintableIn w (refusal_row n p)
refusal_row_fits w n p h k = record { code = refl; block = omega (arith, h); item = omega (arith, h); number = k }

-- so its number and its place are read back off the line
pub line_read : (n : ℕ) (p : Place) → Printable (refusal_row n p) → ReadsRefusal n p (refusal_line n p)
unfolding refusal_line line_in key decimal leading_digits
line_read n p w =
    record {
      code = refl;
      number = read_back 2 n (omega arith) w.block;
      item = read_back 2 0 (omega arith) w.item;
      place = read_back number_columns (printed p) (omega arith) w.number;
    }

-- every refusal of the input has a rule's number, and its place fits the columns of a line
abbrev pub Numbered : Text → Type 0
Numbered x = (n : ℕ) (p : Place) → x ≡ no_text n p → Judging n × FitsColumns (printed p)

-- the room is as long as the text, if there is one
abbrev pub RoomFor : Text → List ℕ → Type 0
RoomFor x r = (t : List ℕ) → x ≡ bytes t → length t ≤ length r

module _ (x : Text) (r : List ℕ) (numbered : Numbered x) where
  -- a refusal has a number, and it is 14 only where the room is short
  unfoldable RightNumber : Outcome → Type 0
  RightNumber (accepted vs) = Unit {0}
  RightNumber (refused n p) = (n ≡ 0 → ⊥) × (RoomFor x r → n ≡ 14 → ⊥)

  call_numbered : RightNumber (lent x r).outcome
  unfolding RightNumber
  call_numbered =
      by_answer x r (λ d. RightNumber d.outcome)
      (λ n p e. let h = (numbered n p e).0 in (h.not_0, λ room. h.not_14))
      (λ t e h. (λ q. omega arith, λ room q. omega (arith, h, room t e)))
      (λ t e. tt)

  -- with room for its text it never answers 14
  pub never_14 : RoomFor x r → (p : Place) → (lent x r).outcome ≡ refused 14 p → ⊥
  unfolding RightNumber
  never_14 room p e = (subst RightNumber e call_numbered).1 room refl

  pub never_0 : Never0 (lent x r).outcome
  unfolding RightNumber
  never_0 p e = (subst RightNumber e call_numbered).0 refl

  -- 14 comes only where there is a text, and it is longer than the room
  pub refused_by_14 : (p : Place) → (lent x r).outcome ≡ refused 14 p → (p ≡ Nowhere) × TooLong (lent x) x r
  refused_by_14 p =
      by_answer x r (λ d. d.outcome ≡ refused 14 p → (p ≡ Nowhere) × TooLong (lent x) x r)
      (λ n q e h. let w : n ≡ 14 = cc in absurd ((numbered n q e).0.not_14 w))
      (λ t e l h. let w : p ≡ Nowhere = cc in (w, record { text = t; says = e; longer = l; fits = λ q k. sym (lent_filled x q e refl k refl) }))
      (λ t e h. never (cc))

-- the line of a refusal has the columns that its number and its place need, so both are read back off what is printed
pub refusal_read : (x : Text) → Numbered x → (n : ℕ) (p : Place) → x ≡ no_text n p → ReadsRefusal n p (printout x)
unfolding printout
refusal_read x numbered n p e =
    let w = numbered n p e in
    rw e (line_read n p (refusal_row_fits number_columns n p w.0.two_columns w.1))

-- ---- what is printed, with room for the text

module _ (x : Text) (r : List ℕ) (room : RoomFor x r) where
  -- by the answer and the room that the call left: the text stands there, or nothing was written and the line comes in front
  record PrintedByAnswer (d : Done) : Type 0 where
    of_text : (n : ℕ) → d.outcome ≡ accepted (n ∷ []) → Printed (printout x) n r d.room
    of_refusal : (n : ℕ) (p : Place) → d.outcome ≡ refused n p → (d.room ≡ r) × (printout x ≡ refusal_line n p)

  printed_by_answer : PrintedByAnswer (lent x r)
  unfolding printout
  printed_by_answer =
      by_answer x r PrintedByAnswer (λ k q e. record { of_text = λ n o. never (cc); of_refusal = λ n p o. (refl, ap printout e ∙ cc) })
      (λ t e h. absurd (omega (arith, h, room t e)))
      (λ t e.
      record {
        of_text = λ n o.
            let k : length t ≡ n = cc in
            rw e (record { count = sym k; bytes = ap (λ (m : ℕ). t ++ drop m r) k });
        of_refusal = λ n p o. never (cc);
      })

  pub printed_answer : (a : Result ℕ Refusal) {r' r'' : List ℕ} {g : ℕ} → ◌≡◌ {A = Done} (record { outcome = stated_number a; room = r' }) (lent x r) → Shown a g r' r''
      → Printed (printout x) g r r''
  printed_answer (Ok n) e h = rw (h.0, h.1) ((subst⁻¹ PrintedByAnswer e printed_by_answer).of_text n refl)
  printed_answer (Err r) {g} e h =
      let w = (subst⁻¹ PrintedByAnswer e printed_by_answer).of_refusal (rule_number r.0) r.1 refl in
      rw w.1 (record { count = h.count; bytes = h.bytes ∙ ap (λ (q : List ℕ). refusal_line (rule_number r.0) r.1 ++ drop g q) w.0 })
