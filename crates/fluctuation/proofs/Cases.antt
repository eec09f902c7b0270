-- The fluctuation call at inputs of which one rule or two turn each away, and each row up to its threshold, a cent above it and at the largest
-- amount, computed: the results were worked out apart from the definitions, off document 02's printed numbers. Assumes nothing.
use Rattle.basics.proofs.Common.{◌≡◌, ℕ, ◌+◌, List, [], ◌∷◌, refl, first_from, least_from, pick}
use Rattle.refusal.specs.Outcome.{Outcome, Outcome.accepted, Outcome.refused}
use Rattle.refusal.specs.declared.Place.TheVariants.{Position, Nowhere}
use Rattle.amount.specs.Amount.{limit, first_above}
use Rattle.amount.specs.Rule7.{rule7}
use Rattle.fluctuation.specs.Rows.{rows, row_of, base_of}
use Rattle.fluctuation.specs.Result.{reaches, factored_requirement}
use Rattle.fluctuation.specs.Call.{fluctuation_call}

-- an amount above the limit
abbrev high : ℕ
high = 100000000000000

-- what a row below critical illness gives for its threshold t in cents, for a cent more and for the largest amount; the face is not read
abbrev up_from : (row t : ℕ) → List Outcome
up_from n t = fluctuation_call n t 0 ∷ fluctuation_call n (t + 1) 0 ∷ fluctuation_call n limit 0 ∷ []

-- what critical illness gives for the largest requirement, on such faces
abbrev on_faces : (t : ℕ) → List Outcome
on_faces t = fluctuation_call 7 limit t ∷ fluctuation_call 7 limit (t + 1) ∷ fluctuation_call 7 limit limit ∷ []

-- three results
abbrev gives : (x y z : ℕ) → List Outcome
gives x y z = accepted (x ∷ []) ∷ accepted (y ∷ []) ∷ accepted (z ∷ []) ∷ []

pub record Cases : Type 0 where
  -- 18 before 7, and the first amount before the second
  pub orders :
      ◌≡◌ {A = List Outcome}
      (fluctuation_call 0 high 0 ∷ fluctuation_call 8 high high ∷ fluctuation_call 1 high high ∷ fluctuation_call 7 0 high ∷ [])
      (refused 18 Nowhere ∷ refused 18 Nowhere ∷ refused 7 (Position 0) ∷ refused 7 (Position 1) ∷ [])
  pub disability_level : up_from 1 4200000000 ≡ gives 4200000000 4199951999 90064800000000
  pub care_level : up_from 2 7500000000 ≡ gives 7500000000 7499890000 50433000000000
  pub disability_volatility : up_from 3 600000000 ≡ gives 600000000 599792548 70073400000000
  pub care_volatility : up_from 4 300000000 ≡ gives 300000000 299924559 30121200000000
  pub travel_and_credit : up_from 5 500000000 ≡ gives 500000000 499808955 20178800000000
  pub medical_and_dental : up_from 6 300000000 ≡ gives 300000000 299893438 70051900000000
  pub critical_illness : on_faces 30000000000 ≡ gives 99999999999999 99997506628680 16472200000000

pub cases : Cases
unfolding pick least_from first_from first_above rows row_of base_of reaches factored_requirement rule7 fluctuation_call
cases =
    record {
      orders = refl;
      disability_level = refl;
      care_level = refl;
      disability_volatility = refl;
      care_volatility = refl;
      travel_and_credit = refl;
      medical_and_dental = refl;
      critical_illness = refl;
    }
