-- Two columns are written at a time, the later one first; where one is left before them, it is the first of all. Assumes nothing.
use Rattle.basics.proofs.Common.{◌∙◌, arith, length-set}
use Rattle.field.proofs.WrittenColumns.{one_written, all_written}
use Rattle.field.proofs.write_field.Goals as goal

pub returns-then-at-eq1 : goal.returns-then-at-eq1
returns-then-at-eq1 c = rw c.digit_or_space.ensures (one_written c.loop-at.invariant c.if-at-eq1.true ∙ simp length-set)

pub returns-else-at-eq1 : goal.returns-else-at-eq1
returns-else-at-eq1 c = all_written c.loop-at.invariant (omega (arith, c.loop-at-test.false, c.if-at-eq1.false)) ∙ simp length-set
