-- The quotient rounded up reaches the numerator, and less than one denominator above it. Assumes nothing.
use Rattle.basics.proofs.Common.{sym, arith, ceil_eq}
use Rattle.guideline.specs.Operational.{operational_denominator}
use Rattle.operational.proofs.rounded_up.Goals as goal

pub returns : goal.returns
returns c = sym (ceil_eq c.args.numerator operational_denominator c.div_ceil.result (omega arith) (omega (arith, c.div_ceil.ensures)) (omega (arith, c.div_ceil.ensures)))
