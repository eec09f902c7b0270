-- An entry's mark is read at its index, and its key is compared with the last one. Assumes nothing.
use Rattle.basics.proofs.Common.{arith}
use Rattle.order.proofs.Admission.{comes_before, comes_after}
use Rattle.order.proofs.admit_entry.Goals as goal

pub returns-then-key_of-last : goal.returns-then-key_of-last
returns-then-key_of-last c =
    comes_before c.args.e _ _ c.index_for-at.ensures.0 c.key_of.ensures c.if-marks-at-gt0.false (omega (arith, c.if-key_of-last.true))

pub returns : goal.returns
returns c =
    comes_after c.args.e _ _ c.index_for-at.ensures.0 c.key_of.ensures c.if-marks-at-gt0.false (omega (arith, c.if-key_of-last.false))
