use Rattle.field.proofs.Minus.{Spaced}
use Rattle.field.proofs.signed.minus_place.Given as goal

abbrev pub invariant-loop-i : goal.invariant-loop-i
invariant-loop-i l = Spaced l.s l.i
