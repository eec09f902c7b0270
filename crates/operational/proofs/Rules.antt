-- Rules 15 and 7 of the operational call, by what its tests find; the general figures' positions follow the volumes'. Assumes nothing.
use Rattle.basics.proofs.Common.{◌≡◌, ℕ, ◌+◌, ◌*◌, ◌%◌, ◌<◌, ◌≤◌, List, [], ◌∷◌, ◌++◌, length, sym, ◌∙◌, arith, length-append, if_eq, if_ge}
use Rattle.refusal.specs.Outcome.{Outcome, Outcome.accepted, Outcome.refused}
use Rattle.refusal.specs.declared.Place.TheVariants.{Position}
use Rattle.amount.specs.Amount.{first_above}
use Rattle.amount.specs.Rule7.{rule7}
use Rattle.amount.proofs.Amounts.{none_above, first_in, first_after}
use Rattle.amount.proofs.Rule7.{refused_7, passed_7}
use Rattle.sizes.specs.Sizes.{territory_numbers, volume_numbers}
use Rattle.guideline.specs.Operational.{OperationalAmounts, RO}
use Rattle.operational.specs.Call.{operational_call}

module _ (l g : List ℕ) where
  -- rule 15 passes
  pub passed_15 : length l ≤ volume_numbers → length l % territory_numbers ≡ 0 → operational_call l g ≡ rule7 (l ++ g) (accepted (RO l g ∷ []))
  unfolding operational_call
  passed_15 h e = if_ge _ h ∙ if_eq _ e

  -- rule 7 at a position of the volumes
  pub in_volumes : {r : ℕ} → (r ≡ first_above l) × (r < length l) → (o : Outcome) → rule7 (l ++ g) o ≡ refused 7 (Position r)
  in_volumes (e, h) o = refused_7 (l ++ g) o (sym (first_in l g (omega arith) ∙ sym e), omega (arith, length-append l g))

  module _ (h : length l ≤ first_above l) where
    last : first_above (l ++ g) ≡ length l + first_above g
    last = first_after l g h

    -- at one of the general figures
    pub in_general : {s : ℕ} → (s ≡ first_above g) × (s < length g) → (o : Outcome) → rule7 (l ++ g) o ≡ refused 7 (Position (length l + s))
    in_general (e, k) o = refused_7 (l ++ g) o (omega (arith, last), omega (arith, length-append l g))

    -- at none
    pub past_7 : length g ≤ first_above g → (o : Outcome) → rule7 (l ++ g) o ≡ o
    past_7 k o = passed_7 (l ++ g) o (omega (arith, last, length-append l g))

    pub amounts : length l ≤ volume_numbers → length g ≤ first_above g → OperationalAmounts l g
    amounts n k =
        let v = none_above l h in
        let w = none_above g k in
        record { short = n; currents = λ j. v (2 * j); priors = λ j. omega (arith, v (2 * j + 1)); gross = w 0; guarantee = w 1; ceded = w 2 }
