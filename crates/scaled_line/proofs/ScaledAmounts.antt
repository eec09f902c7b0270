-- Amounts of one sort in the other: where the rules leave them, they fit there, pass its rules and come back. Assumes nothing.
-- In order: one amount; what the last test leaves of an entry; the entry in the other sort, which passes that sort's rules; and back again.
use Rattle.basics.proofs.Common.{◌≡◌, ℕ, ◌*◌, ◌/◌, ◌%◌, ◌≤◌, Bool, true, false, not, Ok, Err, Result, sym, refl, ap, ◌∙◌, arith, ltb-false, le-ltb, eq-eqb, eqb-true, not-false, pick, if_true}
use Rattle.basics.proofs.Common.{if_false, by_test, never}
use Rattle.amount.specs.Amount.{limit}
use Rattle.sheet_line.specs.Rules.{row_for, is_scalar, AcceptedAmounts, AcceptedLine}
use Rattle.sheet_line.proofs.Acceptance.{scalar_line}
use Rattle.refusal.specs.declared.Rule.{Rule}
use Rattle.sheet_line.specs.declared.Entry.{Entry}
use Rattle.scaled_line.specs.Scale.{other}
use Rattle.scaled_line.specs.Amounts.{thousand_dollars, barred, has_barred, rule20or21, convertible, in_other, amount_of, rescaled}
use Rattle.scaled_line.specs.declared.Scale.{Scale, TheVariants.Cents, TheVariants.Thousands}

-- ---- one amount

-- an amount that the other sort can have
abbrev pub Fits : Scale → ℕ → Type 0
Fits Cents n = n % thousand_dollars ≡ 0
Fits Thousands n = n * thousand_dollars ≤ limit

fits : (d : Scale) (n : ℕ) → barred d n ≡ false → Fits d n
fits Cents n q = eqb-true _ _ (not-false _ q)
fits Thousands n q = ltb-false _ _ q

other_most : (d : Scale) (n : ℕ) → n ≤ limit → Fits d n → in_other d n ≤ limit
other_most Cents n h f = omega arith
other_most Thousands n h f = omega arith

pub other_none : (d : Scale) (n : ℕ) → n ≡ 0 → in_other d n ≡ 0
other_none Cents n h = omega arith
other_none Thousands n h = omega arith

other_up : (d : Scale) (m n : ℕ) → m ≤ n → in_other d m ≤ in_other d n
other_up Cents m n h = omega arith
other_up Thousands m n h = omega arith

other_passes : (d : Scale) (n : ℕ) → n ≤ limit → barred (other d) (in_other d n) ≡ false
other_passes Cents n h = le-ltb limit (n / thousand_dollars * thousand_dollars) (omega arith)
other_passes Thousands n h = let e : n * thousand_dollars % thousand_dollars ≡ 0 = omega arith in ap not (eq-eqb _ _ e)

other_back : (d : Scale) (n : ℕ) → Fits d n → in_other (other d) (in_other d n) ≡ n
other_back Cents n f = omega arith
other_back Thousands n f = omega arith

-- ---- the amounts of an entry

-- what the last test leaves: the scalar's line, or amounts that fit
abbrev FitsEntry : Scale → Entry → Type 0
FitsEntry d e = is_scalar e ≡ false → Fits d e.first × Fits d e.second

pub record Convertible (d : Scale) (e : Entry) : Type 0 where
  pub fit : FitsEntry d e

none_barred : (d : Scale) (e : Entry) → has_barred d e ≡ false → Convertible d e
unfolding has_barred
none_barred d e q = record { fit = λ s. go (sym (if_false _ s) ∙ q) }
  where
    go : pick (barred d e.first) true (barred d e.second) ≡ false → Fits d e.first × Fits d e.second
    go = by_test (λ t. t ≡ false → Fits d e.first × Fits d e.second) _ _ _ (λ t r. never (cc)) (λ t r. (fits d e.first t, fits d e.second r))

-- a line that passes the last test is the line that was tested
pub keeps : (d : Scale) (l : Result Entry Rule) (e : Entry) → convertible d l ≡ Ok e → l ≡ Ok e
unfolding rule20or21
keeps d (Err r) e = λ q. never (cc)
keeps d (Ok f) e = by_test (λ l. l ≡ Ok e → ◌≡◌ {A = Result Entry Rule} (Ok f) (Ok e)) _ _ _ (λ t q. never (cc)) (λ t q. q)

pub passes_convertible : (d : Scale) (e : Entry) → convertible d (Ok e) ≡ Ok e → Convertible d e
unfolding rule20or21
passes_convertible d e = by_test (λ l. l ≡ Ok e → Convertible d e) _ _ _ (λ t q. never (cc)) (λ t q. none_barred d e t)

-- the scalar's line keeps its number
kept : (d : Scale) (e : Entry) (n : ℕ) → is_scalar e ≡ true → amount_of d e n ≡ n
unfolding amount_of
kept d e n s = if_true _ s

changed : (d : Scale) (e : Entry) (n : ℕ) → is_scalar e ≡ false → amount_of d e n ≡ in_other d n
unfolding amount_of
changed d e n s = if_false _ s

module _ (d : Scale) (e : Entry) (C : Convertible d e) (a : AcceptedLine e) where
  abbrev f : ℕ
  f = e.first

  abbrev g : ℕ
  g = e.second

  amounts : (t : Bool) → is_scalar e ≡ t → AcceptedAmounts (row_for e) e.class (amount_of d e f) (amount_of d e g)
  amounts true s = rw (kept d e f s, kept d e g s) a.amounts
  amounts false s =
      let m = a.amounts in
      rw (changed d e f s, changed d e g s)
      (record {
        first_most = other_most d f m.first_most (C.fit s).0;
        second_most = other_most d g m.second_most (C.fit s).1;
        single = λ o. other_none d g (m.single o);
        trend = λ o. other_up d g f (m.trend o);
        scalar = λ o. let t = scalar_line e a.key.one o in never (cc);
      })

  -- the rules of a line leave it in the other sort too
  pub rescaled_accepted : AcceptedLine (rescaled d e)
  rescaled_accepted = record { key = a.key; amounts = amounts (is_scalar e) refl }

  none_barred_back : (t : Bool) → is_scalar e ≡ t → has_barred (other d) (rescaled d e) ≡ false
  unfolding has_barred
  none_barred_back true s = if_true _ s
  none_barred_back false s =
      let m = a.amounts in
      if_false _ s
      ∙ if_false _ (ap (barred (other d)) (changed d e f s) ∙ other_passes d f m.first_most)
      ∙ ap (barred (other d)) (changed d e g s)
      ∙ other_passes d g m.second_most

  -- so does its last test
  pub rescaled_passes : convertible (other d) (Ok (rescaled d e)) ≡ Ok (rescaled d e)
  unfolding rule20or21
  rescaled_passes = if_false _ (none_barred_back (is_scalar e) refl)

  amount_back : (n : ℕ) → (is_scalar e ≡ false → Fits d n) → (t : Bool) → is_scalar e ≡ t → amount_of (other d) (rescaled d e) (amount_of d e n) ≡ n
  amount_back n h true s = kept (other d) (rescaled d e) (amount_of d e n) s ∙ kept d e n s
  amount_back n h false s =
      changed (other d) (rescaled d e) (amount_of d e n) s ∙ ap (in_other (other d)) (changed d e n s) ∙ other_back d n (h s)

  -- and it comes back
  pub rescaled_back : rescaled (other d) (rescaled d e) ≡ e
  rescaled_back =
      let p = amount_back f (λ s. (C.fit s).0) (is_scalar e) refl in
      let q = amount_back g (λ s. (C.fit s).1) (is_scalar e) refl in
      λ i. record { code = e.code; block = e.block; class = e.class; first = p i; second = q i }
