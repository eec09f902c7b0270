use Rattle.basics.proofs.Common.{◌*◌, take, Wrote}
use Rattle.quarter.proofs.copy_text.Given as goal

abbrev pub invariant-loop-i : goal.invariant-loop-i
invariant-loop-i l = Wrote l.initial.room (2 * l.i) (take (2 * l.i) l.text) l.room
