-- The fluctuation call accepts just what rules 18 and 7 leave. What it gives is walked rule by rule; where the amounts are known to pass, rule
-- 7 finds none. The accuracy rule holds of what is accepted. Assumes nothing.
use Rattle.basics.proofs.Common.{◌≡◌, ℕ, zero, suc, ◌≤◌, [], ◌∷◌, get_or, refl, ◌∙◌, arith, ltb-false, by_test}
use Rattle.refusal.specs.Outcome.{Outcome, Outcome.accepted}
use Rattle.refusal.proofs.Acceptance.{RulesFollowed, accepts_just, if_accepted}
use Rattle.amount.specs.Amount.{limit}
use Rattle.amount.proofs.Rule7.{within_passes, by_rule7}
use Rattle.fluctuation.specs.Rows.{row_of}
use Rattle.fluctuation.specs.Result.{factored_requirement}
use Rattle.fluctuation.specs.Call.{fluctuation_call}
use Rattle.fluctuation.specs.Accepted.{AcceptedFluctuation, AcceptsFluctuation, FluctuationDemand}
use Rattle.fluctuation.proofs.Rules.{passed_18}
use Rattle.fluctuation.proofs.Demand.{result_demand}

module _ (n b face : ℕ) where
  abbrev Followed : Outcome → Type 0
  Followed = RulesFollowed (AcceptedFluctuation n b face) (factored_requirement (row_of n) b face ∷ [])

  followed : Followed (fluctuation_call n b face)
  unfolding RulesFollowed fluctuation_call
  followed =
      by_test Followed _ _ _ (λ t z. omega arith) λ low.
      by_test Followed _ _ _ (λ t z. omega arith) λ high.
      by_rule7 (b ∷ face ∷ []) _ Followed (λ p z. omega arith) λ a.
      (refl, record { first_row = ltb-false _ _ low; last_row = ltb-false _ _ high; requirement = a 0; face_within = a 1 })

  -- no amount is found above the limit where neither is
  both_within : b ≤ limit → face ≤ limit → (k : ℕ) → get_or (b ∷ face ∷ []) k 0 ≤ limit
  both_within h i zero = h
  both_within h i (suc zero) = i
  both_within h i (suc (suc k)) = omega arith

  passes : AcceptedFluctuation n b face → fluctuation_call n b face ≡ accepted (factored_requirement (row_of n) b face ∷ [])
  passes v = passed_18 n b face v.first_row v.last_row ∙ within_passes (b ∷ face ∷ []) _ (both_within v.requirement v.face_within)

  pub accepts_fluctuation : AcceptsFluctuation n b face
  accepts_fluctuation = accepts_just _ _ _ _ followed (λ typed v. passes v)

  pub fluctuation_demanded : (o : Outcome) → o ≡ fluctuation_call n b face → FluctuationDemand n b face o
  fluctuation_demanded = if_accepted _ accepts_fluctuation (λ v. (refl, result_demand n b face v))
