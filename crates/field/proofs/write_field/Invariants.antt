-- The columns from `at` on are written, and what is left of the number belongs into the columns before them. Assumes nothing.
use Rattle.basics.proofs.Common.{length}
use Rattle.field.proofs.WrittenColumns.{Written}
use Rattle.field.proofs.write_field.Given as goal

abbrev pub invariant-loop-at : goal.invariant-loop-at
invariant-loop-at l = Written (length l.initial.out) l.fn.v l.out l.at l.left

abbrev pub decreases-loop-at : goal.decreases-loop-at
decreases-loop-at l = l.at
