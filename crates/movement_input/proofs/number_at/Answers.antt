-- The line that is read is the one behind i others. Assumes nothing.
use Rattle.basics.proofs.Common.{◌≡◌, ◌∙◌, rules}
use Rattle.movement_input.specs.Reading.{amount_at}
use Rattle.movement_input.proofs.Lines.{held}
use Rattle.movement_input.proofs.number_at.Goals as goal

pub returns : goal.returns
returns c =
    let e : c.read_amount.result ≡ amount_at c.args.input.now c.args.i =
    c.read_amount.ensures ∙ held _ (search rules) c.as_chunks.ensures.front _ _ c.requires in
    rw (← e) (search rules)
