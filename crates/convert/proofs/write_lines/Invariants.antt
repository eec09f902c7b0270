use Rattle.convert.proofs.TwoPasses.{Writing}
use Rattle.convert.proofs.write_lines.Given as goal

abbrev pub invariant-loop-i : goal.invariant-loop-i
invariant-loop-i l = Writing l.scale l.sheet l.initial.room l.room l.i
