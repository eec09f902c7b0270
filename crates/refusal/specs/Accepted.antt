-- What is said of every call, by its outcome: with which values it accepts what, and that it accepts nothing else; and what holds of the values of
-- an accepted one. Assumes nothing.
use Rattle.std.specs.Prelude.{◌≡◌, List, ℕ}
use Rattle.refusal.specs.Outcome.{Outcome, Never0}
use Rattle.refusal.specs.Outcome.Outcome.{accepted, refused}

-- of a call's outcome for one input: what the type of the input says of it, what the call's rules leave, and the values that then go with it
pub record AcceptsJust (Typed Allowed : Type 0) (values : List ℕ) (o : Outcome) : Type 0 where
  -- what the rules leave is accepted, with those values
  pub accepts : Typed → Allowed → o ≡ accepted values
  -- and nothing else is, and with no others
  pub accepted_only : (vs : List ℕ) → o ≡ accepted vs → (vs ≡ values) × Allowed
  pub never_0 : Never0 o

-- what holds of the values where the call accepts; a refusal has none
abbrev pub IfAccepted : (List ℕ → Type 0) → Outcome → Type 0
IfAccepted holds (accepted vs) = holds vs
IfAccepted holds (refused n p) = Unit {0}
