-- The operational call of document 01, 'What is turned away': 'it tests 15, then 7, positions running through both', and 'Accepted ..
-- the operational call RO'. Assumes nothing.
use Rattle.std.specs.Prelude.{List, [], ◌∷◌, ◌++◌, ℕ, ◌%◌, ltb, eqb, length}
use Rattle.basics.specs.Pick.{pick}
use Rattle.amount.specs.Rule7.{rule7}
use Rattle.refusal.specs.Outcome.{Outcome}
use Rattle.refusal.specs.Outcome.Outcome.{accepted, refused}
use Rattle.refusal.specs.declared.Place.TheVariants.{Nowhere}
use Rattle.sizes.specs.Sizes.{territory_numbers, volume_numbers}
use Rattle.guideline.specs.Operational.{RO}

-- rule 15, 'longer than 256 numbers or not a multiple of 16', and then rule 7, at a position of the volumes and the general figures after them
unfoldable pub operational_call : List ℕ → List ℕ → Outcome
operational_call l g =
    pick (ltb volume_numbers (length l)) (refused 15 Nowhere)
    (pick (eqb (length l % territory_numbers) 0) (rule7 (l ++ g) (accepted (RO l g ∷ []))) (refused 15 Nowhere))
