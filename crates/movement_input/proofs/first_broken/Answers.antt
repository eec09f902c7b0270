-- What `position` gives of the lines is the first that is broken, and none where none is. Assumes nothing.
use Rattle.basics.proofs.Common.{◌≡◌, true, false, rules, tests}
use Rattle.std.proofs.lemmas.Iterator.{IsFirst-from_position, YieldsList-from_slice}
use Rattle.movement_input.proofs.Lines.{bad, broken_found}
use Rattle.movement_input.proofs.first_broken.Goals as goal

pub returns : goal.returns
returns c =
    broken_found c.args.input.now (search rules) c.as_chunks.ensures.front _
    (IsFirst-from_position _ _ _ (λ l. bad l ≡ true) (λ l. bad l ≡ false) c.position.ensures.ran
    (YieldsList-from_slice _ c.iter.ensures.rest) (λ x q k. search (rules, tests)) (λ x q k. search (rules, tests)))
