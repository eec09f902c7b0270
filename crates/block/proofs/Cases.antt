-- The block call at numbers that its rules turn away, most of them by two: 7 comes before 8 and 9, and 8 before 9, wherever they stand. Computed.
-- Assumes nothing.
use Rattle.basics.proofs.Common.{◌≡◌, ℕ, List, [], ◌∷◌, map, refl, first_from, pick}
use Rattle.refusal.specs.Outcome.Outcome.{refused}
use Rattle.refusal.specs.declared.Place.TheVariants.{Position}
use Rattle.amount.specs.Amount.{first_above}
use Rattle.amount.specs.Rule7.{rule7}
use Rattle.block.specs.Call.{first_lt_above, rule9, rule8, block_call}

-- an amount above the limit
abbrev high : ℕ
high = 100000000000000

-- the numbers
abbrev refused_blocks : List (List ℕ)
refused_blocks =
    -- above the limit, and an LT(7): 7
    (high ∷ 0 ∷ 0 ∷ 0 ∷ 0 ∷ 0 ∷ 0 ∷ 0 ∷ 0 ∷ 0 ∷ 0 ∷ 0 ∷ 0 ∷ 1 ∷ 0 ∷ 0 ∷ 0 ∷ [])
    -- an LT above its IR, and a market amount above the limit: 7, though it stands behind
    ∷ (0 ∷ 1 ∷ 0 ∷ 0 ∷ 0 ∷ 0 ∷ 0 ∷ 0 ∷ 0 ∷ 0 ∷ 0 ∷ 0 ∷ 0 ∷ 0 ∷ 0 ∷ 0 ∷ high ∷ [])
    -- two above the limit: the first
    ∷ (0 ∷ 0 ∷ 0 ∷ 0 ∷ high ∷ 0 ∷ 0 ∷ 0 ∷ 0 ∷ 0 ∷ 0 ∷ 0 ∷ 0 ∷ 0 ∷ 0 ∷ high ∷ 0 ∷ [])
    -- an LT(7), and an LT above its IR in front of it: 8
    ∷ (0 ∷ 1 ∷ 0 ∷ 0 ∷ 0 ∷ 0 ∷ 0 ∷ 0 ∷ 0 ∷ 0 ∷ 0 ∷ 0 ∷ 0 ∷ 1 ∷ 0 ∷ 0 ∷ 0 ∷ [])
    -- an LT(7) within its IR: 8
    ∷ (0 ∷ 0 ∷ 0 ∷ 0 ∷ 0 ∷ 0 ∷ 0 ∷ 0 ∷ 0 ∷ 0 ∷ 0 ∷ 0 ∷ 5 ∷ 1 ∷ 0 ∷ 0 ∷ 0 ∷ [])
    -- two LT above their IR: the first
    ∷ (0 ∷ 0 ∷ 0 ∷ 0 ∷ 0 ∷ 1 ∷ 0 ∷ 0 ∷ 0 ∷ 0 ∷ 0 ∷ 1 ∷ 0 ∷ 0 ∷ 0 ∷ 0 ∷ 0 ∷ [])
    ∷ []

pub cases :
    map block_call refused_blocks
    ≡ refused 7 (Position 0)
    ∷ refused 7 (Position 16)
    ∷ refused 7 (Position 4)
    ∷ refused 8 (Position 13)
    ∷ refused 8 (Position 13)
    ∷ refused 9 (Position 5) ∷ []
unfolding pick first_from first_above first_lt_above rule9 rule8 rule7 block_call
cases = refl
