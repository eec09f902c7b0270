-- What the fluctuation call accepts, after document 02, #104: just the numbers that rules 18 and 7 leave; and the accuracy rule where it
-- does. proofs/Acceptance proves both of every call. Assumes nothing.
use Rattle.std.specs.Prelude.{◌≡◌, ⊤, [], ◌∷◌, ℕ, ◌≤◌}
use Rattle.amount.specs.Amount.{limit}
use Rattle.refusal.specs.Outcome.{Outcome}
use Rattle.refusal.specs.Accepted.{AcceptsJust, IfAccepted}
use Rattle.fluctuation.specs.Rows.{row_count, row_of}
use Rattle.fluctuation.specs.Result.{factored_requirement}
use Rattle.fluctuation.specs.Demand.{ResultDemand}
use Rattle.fluctuation.specs.Call.{fluctuation_call}

-- a row from 1 to 7, and no amount above the limit
pub record AcceptedFluctuation (n b face : ℕ) : Type 0 where
  pub first_row : 1 ≤ n
  pub last_row : n ≤ row_count
  pub requirement : b ≤ limit
  pub face_within : face ≤ limit

-- of any row and amounts: those are accepted, with the result, and no others are
abbrev pub AcceptsFluctuation : (n b face : ℕ) → Type 0
AcceptsFluctuation n b face =
    AcceptsJust ⊤ (AcceptedFluctuation n b face) (factored_requirement (row_of n) b face ∷ []) (fluctuation_call n b face)

-- the accuracy rule, by the call's outcome: accepted, its one value is the result, which meets the rule
abbrev pub FluctuationDemand : (n b face : ℕ) → Outcome → Type 0
FluctuationDemand n b face =
    IfAccepted (λ vs. (vs ≡ factored_requirement (row_of n) b face ∷ []) × ResultDemand (row_of n) b face (factored_requirement (row_of n) b face))
