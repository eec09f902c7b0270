-- Rule 7 of document 01, 'What is turned away', of a call on numbers: 'a call's amount above the limit', at the position of the first. Assumes nothing.
use Rattle.std.specs.Prelude.{List, ℕ, ltb, length}
use Rattle.basics.specs.Pick.{pick}
use Rattle.refusal.specs.Outcome.{Outcome}
use Rattle.refusal.specs.Outcome.Outcome.{refused}
use Rattle.refusal.specs.declared.Place.TheVariants.{Position}
use Rattle.amount.specs.Amount.{first_above}

-- of the call's amounts, in order, and what it gives where none is above
unfoldable pub rule7 : List ℕ → Outcome → Outcome
rule7 l passed = pick (ltb (first_above l) (length l)) (refused 7 (Position (first_above l))) passed
