use Rattle.movement_input.proofs.Numbers.{Numbers}
use Rattle.movement_input.proofs.block_of.Given as goal

abbrev pub invariant-loop-i : goal.invariant-loop-i
invariant-loop-i l = Numbers l.input l.initial.numbers l.i l.numbers
