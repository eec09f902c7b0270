-- Whenever the loop's test is reached, the lines of the first i risks stand in front. Assumes nothing.
use Rattle.movement.proofs.Lines.{no_line, next_line, all_lines}
use Rattle.basics.proofs.Common.{rules}
use Rattle.movement.proofs.moves.write_movements.Goals as goal

pub loop-i-init : goal.loop-i-init
loop-i-init c = no_line _ _ _

pub write_movement-requires : goal.write_movement-requires
write_movement-requires c = (c.requires.0, c.requires.1, search rules, search rules)

pub loop-i-preserved : goal.loop-i-preserved
loop-i-preserved c =
    next_line _ _ c.loop-i.invariant c.requires.2 c.loop-i-test.true c.write_movement.ensures

pub returns : goal.returns
returns c = all_lines _ _ c.loop-i.invariant c.requires.2 c.loop-i-test.false
