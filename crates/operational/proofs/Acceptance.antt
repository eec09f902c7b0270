-- The operational call accepts just what rules 15 and 7 leave. What it gives is walked rule by rule; where all numbers are known to pass, no
-- rule finds one. Assumes nothing.
use Rattle.basics.proofs.Common.{◌≡◌, ℕ, ◌+◌, ◌%◌, ◌≤◌, List, [], ◌∷◌, ◌++◌, length, get_or, refl, ◌∙◌, arith, get_or-append-add, ltb-false, eqb-true, dec_le, get_or-eq_default, get_or-append}
use Rattle.basics.proofs.Common.{by_test}
use Rattle.refusal.specs.Outcome.{Outcome, Outcome.accepted}
use Rattle.refusal.proofs.Acceptance.{RulesFollowed, accepts_just}
use Rattle.amount.specs.Amount.{limit}
use Rattle.amount.specs.Rule7.{rule7}
use Rattle.amount.proofs.Amounts.{all_within}
use Rattle.amount.proofs.Rule7.{by_rule7}
use Rattle.sizes.specs.Sizes.{territory_numbers, volume_numbers}
use Rattle.guideline.specs.Operational.{RO}
use Rattle.operational.specs.Call.{operational_call}
use Rattle.operational.specs.Accepted.{AcceptedOperational, AcceptsOperational}
use Rattle.operational.proofs.Rules.{passed_15, past_7}

module _ (l g : List ℕ) where
  -- of the two lists one after the other, the first by itself
  in_first : ((k : ℕ) → get_or (l ++ g) k 0 ≤ limit) → (k : ℕ) → get_or l k 0 ≤ limit
  in_first a k =
      elim (dec_le (length l) k) [
        | yes p ↦ omega (arith, get_or-eq_default l 0 p)
        | no p ↦ omega (arith, a k, get_or-append l g 0 k (omega arith))
      ]

  abbrev Followed : Outcome → Type 0
  Followed = RulesFollowed (AcceptedOperational l g) (RO l g ∷ [])

  after_15 : length l ≤ volume_numbers → length l % territory_numbers ≡ 0 → Followed (rule7 (l ++ g) (accepted (RO l g ∷ [])))
  unfolding RulesFollowed
  after_15 h e =
      by_rule7 (l ++ g) _ Followed (λ p z. omega arith) λ a. (
        refl,
        record { short = omega arith; multiple = e; volumes = in_first a; general = λ k. omega (arith, a (length l + k), get_or-append-add l g k 0) },
      )

  followed : Followed (operational_call l g)
  unfolding RulesFollowed operational_call
  followed =
      by_test Followed _ _ _ (λ t z. omega arith) λ long.
      by_test Followed _ _ _ (λ multiple. after_15 (ltb-false _ _ long) (eqb-true _ _ multiple)) (λ t z. omega arith)

  passes : AcceptedOperational l g → operational_call l g ≡ accepted (RO l g ∷ [])
  passes v =
      passed_15 l g (omega arith) v.multiple
      ∙ past_7 l g (omega (arith, all_within l v.volumes)) (omega (arith, all_within g v.general)) _

  pub accepts_operational : AcceptsOperational l g
  accepts_operational = accepts_just _ _ _ _ followed (λ typed v. passes v)
