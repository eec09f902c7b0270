use Rattle.convert.proofs.TwoPasses.{TestedTo}
use Rattle.convert.proofs.test_lines.Given as goal

abbrev pub invariant-loop-i : goal.invariant-loop-i
invariant-loop-i l = TestedTo l.scale l.sheet l.marks l.last l.i
