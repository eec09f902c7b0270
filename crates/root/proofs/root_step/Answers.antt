-- The digit is 0 or 1, as a number, and the law of one digit more says what it leaves. Assumes nothing.
use Rattle.basics.proofs.Common.{arith}
use Rattle.root.proofs.Roots.{Digit, digit}
use Rattle.root.proofs.root_step.Goals.{After-left_above-left}
use Rattle.root.proofs.root_step.Goals as goal

more : (c : After-left_above-left) → let a = c.args in Digit a.root a.rest a.digits c.one_if_above-digit.result c.left_above-left.result
more c = digit _ _ _ _ _ c.requires.0 c.requires.2 c.one_if_above-digit.ensures c.left_above-left.ensures

pub overflow_add-result : goal.overflow_add-result
overflow_add-result c = omega (arith, (more c).bit)

pub returns : goal.returns
returns c = record {
  value = ((more c).square, (more c).small);
  digit = (omega arith, omega (arith, (more c).bit));
}
