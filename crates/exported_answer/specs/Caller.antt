-- What an exported call leaves with its caller in C or Rust: the number that it gives, and every lent array afterwards. A call that is
-- accepted gives 0 and writes its values; a refused one gives its number, which is never 0, and writes its place; nothing else is written.
-- Assumes nothing.
use Rattle.std.specs.Prelude.{◌≡◌, List, ℕ}
use Rattle.refusal.specs.Outcome.{Outcome, place_of}
use Rattle.refusal.specs.Outcome.Outcome.{accepted, refused}

-- the number given: 0, or the refusal's
abbrev pub number_of : Outcome → ℕ
number_of (accepted vs) = 0
number_of (refused n p) = n

-- the lent place afterwards
abbrev pub place_after : Outcome → List ℕ → List ℕ
place_after (accepted vs) before = before
place_after (refused n p) before = place_of p

-- the lent values afterwards: 'A refused call gives no figure'
abbrev pub values_after : Outcome → List ℕ → List ℕ
values_after (accepted vs) before = vs
values_after (refused n p) before = before

-- all that a call leaves, by its outcome and what the values and the place held before
pub record CallerHas (o : Outcome) (given : ℕ) (values₀ place₀ values place : List ℕ) : Type 0 where
  pub number_is : given ≡ number_of o
  -- 0 is given only where the call is accepted
  pub accepted_at_0 : given ≡ 0 → (vs : List ℕ) × (o ≡ accepted vs)
  pub values_are : values ≡ values_after o values₀
  pub place_is : place ≡ place_after o place₀
