-- After each step the quotient and the rest so far are those of the digits above the ones that are left (`Between`); where none is left, they
-- are the whole number's. Assumes nothing.
use Rattle.basics.proofs.Common.{arith}
use Rattle.division.proofs.Quotients.{step}
use Rattle.division.proofs.divide_lower.Goals as goal

pub loop-left-preserved : goal.loop-left-preserved
loop-left-preserved c =
    let i = c.loop-left.invariant in
    let e = c.divide_step-held.ensures in
    (omega (arith, i.0), step _ _ _ _ _ _ _ _ _ c.step_width-width.ensures.1 i.1 e.below.0 e.below.1 e.value)
