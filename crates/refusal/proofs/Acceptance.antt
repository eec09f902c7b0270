-- A call accepts just what its rules leave: its outcome is walked rule by rule, and what they leave passes each. What holds of an outcome that is
-- accepted holds by the call's values. Assumes nothing.
use Rattle.std.proofs.Common.{◌≡◌, ℕ, List, sym, refl, subst}
use Rattle.refusal.specs.Outcome.{Outcome, Outcome.accepted, Outcome.refused}
use Rattle.refusal.specs.Accepted.{AcceptsJust, IfAccepted}

module _ (Allowed : Type 0) (values : List ℕ) where
  -- what a walk through the rules finds of an outcome: accepted, it has the values of what they leave; refused, the number is not 0
  unfoldable pub RulesFollowed : Outcome → Type 0
  RulesFollowed (accepted vs) = (vs ≡ values) × Allowed
  RulesFollowed (refused n p) = n ≡ 0 → ⊥

  pub accepts_just : (Typed : Type 0) (o : Outcome) → RulesFollowed o → (Typed → Allowed → o ≡ accepted values) → AcceptsJust Typed Allowed values o
  unfolding RulesFollowed
  accepts_just Typed o followed passes =
      record {
        accepts = passes;
        accepted_only = λ vs e. subst RulesFollowed e followed;
        never_0 = λ p e. subst RulesFollowed e followed refl;
      }

-- what is left by the rules and holds of the values holds of every answer that says the outcome
pub if_accepted :
    {Typed Allowed : Type 0} {values : List ℕ} {o : Outcome} (holds : List ℕ → Type 0) → AcceptsJust Typed Allowed values o → (Allowed → holds values) →
    (answer : Outcome) → answer ≡ o → IfAccepted holds answer
if_accepted holds just h (accepted vs) e = let j = just.accepted_only vs (sym e) in subst holds (sym j.0) (h j.1)
if_accepted holds just h (refused n p) e = tt
