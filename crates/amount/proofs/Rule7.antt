-- Rule 7: what it gives where the search for an amount above the limit finds one, and where it finds none. Assumes nothing.
use Rattle.basics.proofs.Common.{◌≡◌, ℕ, ◌<◌, ◌≤◌, List, length, get_or, arith, ltb-false, if_lt, if_ge, by_test}
use Rattle.refusal.specs.Outcome.{Outcome, Outcome.refused}
use Rattle.refusal.specs.declared.Place.{Place, TheVariants.Position}
use Rattle.amount.specs.Amount.{limit, first_above}
use Rattle.amount.specs.Rule7.{rule7}
use Rattle.amount.proofs.Amounts.{none_above, all_within}

module _ (l : List ℕ) (passed : Outcome) where
  pub refused_7 : {r : ℕ} → (r ≡ first_above l) × (r < length l) → rule7 l passed ≡ refused 7 (Position r)
  unfolding rule7
  refused_7 (e, h) = rw e (if_lt _ (rw e at h))

  pub passed_7 : length l ≤ first_above l → rule7 l passed ≡ passed
  unfolding rule7
  passed_7 h = if_ge _ h

  -- amounts that are all within the limit pass
  pub within_passes : ((k : ℕ) → get_or l k 0 ≤ limit) → rule7 l passed ≡ passed
  within_passes a = passed_7 (omega (arith, all_within l a))

  -- what holds of a refusal by 7, and of what comes after where no amount is above, holds of both together
  pub by_rule7 : (P : Outcome → Type 0) → ((p : Place) → P (refused 7 p)) → (((k : ℕ) → get_or l k 0 ≤ limit) → P passed) → P (rule7 l passed)
  unfolding rule7
  by_rule7 P turned left = by_test P _ _ _ (λ t. turned _) (λ none. left (none_above l (ltb-false _ _ none)))
