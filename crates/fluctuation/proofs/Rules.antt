-- Rule 18 of the fluctuation call, by what its tests find, and what rule 7 leaves. Assumes nothing.
use Rattle.basics.proofs.Common.{◌≡◌, ℕ, ◌<◌, ◌≤◌, [], ◌∷◌, ◌∙◌, if_lt, if_ge}
use Rattle.refusal.specs.Outcome.Outcome.{accepted, refused}
use Rattle.refusal.specs.declared.Place.TheVariants.{Nowhere}
use Rattle.amount.specs.Amount.{limit, first_above}
use Rattle.amount.specs.Rule7.{rule7}
use Rattle.amount.proofs.Amounts.{none_above}
use Rattle.fluctuation.specs.Rows.{row_count, row_of}
use Rattle.fluctuation.specs.Result.{factored_requirement}
use Rattle.fluctuation.specs.Call.{fluctuation_call}

module _ (n b face : ℕ) where
  pub no_row_below : n < 1 → fluctuation_call n b face ≡ refused 18 Nowhere
  unfolding fluctuation_call
  no_row_below h = if_lt _ h

  pub no_row_above : 1 ≤ n → row_count < n → fluctuation_call n b face ≡ refused 18 Nowhere
  unfolding fluctuation_call
  no_row_above h k = if_ge _ h ∙ if_lt _ k

  pub passed_18 :
      1 ≤ n → n ≤ row_count → fluctuation_call n b face ≡ rule7 (b ∷ face ∷ []) (accepted (factored_requirement (row_of n) b face ∷ []))
  unfolding fluctuation_call
  passed_18 h k = if_ge _ h ∙ if_ge _ k

-- what rule 7 leaves
pub within_limit : (b face : ℕ) → 2 ≤ first_above (b ∷ face ∷ []) → (b ≤ limit) × (face ≤ limit)
within_limit b face h = let a = none_above (b ∷ face ∷ []) h in (a 0, a 1)
