use Rattle.movement.proofs.Lines.{Lines}
use Rattle.movement.proofs.moves.write_movements.Given as goal

abbrev pub invariant-loop-i : goal.invariant-loop-i
invariant-loop-i l = Lines l.block.numbers l.raise l.initial.room l.i l.room
