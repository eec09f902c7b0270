-- What is known once an input was taken, chunk by chunk. Assumes nothing.
use Rattle.std.specs.Prelude.{◌≡◌, List, ℕ, Option, None, Some, Result, Ok, Err}
use Rattle.stdio.specs.declared.Failure.{Failure}
use Rattle.stdio.specs.declared.Failure.TheVariants.{Unread}
use Rattle.quarter.specs.declared.Quarter.{Quarter}
use Rattle.quarter.specs.Steps.{After, Reachable}

-- of an input whose bytes are known, what follows of all of them, also where those after too many sheets were not read; of any other, what follows of
-- some bytes; or the input could not be read
abbrev pub TakenAll : Option (List ℕ) → List ℕ → List ℕ → Result Quarter Failure → Type 0
TakenAll (Some s) room out (Ok q) = After s room out q
TakenAll None room out (Ok q) = Reachable room out q
TakenAll left room out (Err e) = e ≡ Unread
