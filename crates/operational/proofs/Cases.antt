-- The operational call at volumes and general figures that its rules turn away, most of them by two: 15 comes before 7, and positions run through
-- both. Computed. Assumes nothing.
use Rattle.basics.proofs.Common.{◌≡◌, ℕ, List, [], ◌∷◌, set, replicate, refl, first_from, pick}
use Rattle.refusal.specs.Outcome.{Outcome, Outcome.refused}
use Rattle.refusal.specs.declared.Place.TheVariants.{Position, Nowhere}
use Rattle.amount.specs.Amount.{first_above}
use Rattle.amount.specs.Rule7.{rule7}
use Rattle.operational.specs.Call.{operational_call}

-- an amount above the limit
abbrev high : ℕ
high = 100000000000000

-- n volumes that are all zero
abbrev zeros : ℕ → List ℕ
zeros n = replicate n 0

pub cases :
    ◌≡◌ {A = List Outcome}
    -- eight numbers as a territory
    (operational_call (zeros 8) (zeros 3)
    -- one number too few or too many, and one above the limit
    ∷ operational_call (set (zeros 15) 0 high) (zeros 3) ∷ operational_call (zeros 17) (high ∷ 0 ∷ 0 ∷ [])
    -- a territory too many, and one above the limit
    ∷ operational_call (set (zeros 272) 0 high) (zeros 3)
    -- above the limit: a volume and a general figure, the last general figure behind the longest list
    ∷ operational_call (set (zeros 16) 3 high) (high ∷ 0 ∷ 0 ∷ []) ∷ operational_call (zeros 256) (0 ∷ 0 ∷ high ∷ []) ∷ [])
    (refused 15 Nowhere ∷ refused 15 Nowhere ∷ refused 15 Nowhere ∷ refused 15 Nowhere ∷ refused 7 (Position 3) ∷ refused 7 (Position 258) ∷ [])
unfolding pick first_from first_above rule7 operational_call
cases = refl
