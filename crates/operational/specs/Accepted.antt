-- What the operational call accepts, after document 01, 'What is turned away': just the numbers that rules 15 and 7 leave.
-- proofs/Acceptance proves it of every call. Assumes nothing.
use Rattle.std.specs.Prelude.{◌≡◌, ⊤, List, [], ◌∷◌, ℕ, ◌%◌, ◌≤◌, length, get_or}
use Rattle.amount.specs.Amount.{limit}
use Rattle.refusal.specs.Accepted.{AcceptsJust}
use Rattle.sizes.specs.Sizes.{territory_numbers, volume_numbers}
use Rattle.guideline.specs.Operational.{RO}
use Rattle.operational.specs.Call.{operational_call}

-- volumes of whole territories, of no more than there are, and no volume and no general figure above the limit
pub record AcceptedOperational (l g : List ℕ) : Type 0 where
  pub short : length l ≤ volume_numbers
  pub multiple : length l % territory_numbers ≡ 0
  pub volumes : (k : ℕ) → get_or l k 0 ≤ limit
  pub general : (k : ℕ) → get_or g k 0 ≤ limit

-- of any volumes and general figures: those are accepted, with RO, and no others are
abbrev pub AcceptsOperational : List ℕ → List ℕ → Type 0
AcceptsOperational l g = AcceptsJust ⊤ (AcceptedOperational l g) (RO l g ∷ []) (operational_call l g)
