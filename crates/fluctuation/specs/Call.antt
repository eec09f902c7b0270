-- The fluctuation call, after document 02, #104: 'It refuses, as number 18 with no place, a row outside 1–7, before 7, at position 0 for B
-- and 1 for the face'. Assumes nothing.
use Rattle.std.specs.Prelude.{[], ◌∷◌, ℕ, ltb}
use Rattle.basics.specs.Pick.{pick}
use Rattle.amount.specs.Rule7.{rule7}
use Rattle.refusal.specs.Outcome.{Outcome}
use Rattle.refusal.specs.Outcome.Outcome.{accepted, refused}
use Rattle.refusal.specs.declared.Place.TheVariants.{Nowhere}
use Rattle.fluctuation.specs.Rows.{row_count, row_of}
use Rattle.fluctuation.specs.Result.{factored_requirement}

-- rule 18, 'a row outside 1–7', and then rule 7
unfoldable pub fluctuation_call : (row b face : ℕ) → Outcome
fluctuation_call n b face =
    pick (ltb n 1) (refused 18 Nowhere)
    (pick (ltb row_count n) (refused 18 Nowhere) (rule7 (b ∷ face ∷ []) (accepted (factored_requirement (row_of n) b face ∷ []))))
