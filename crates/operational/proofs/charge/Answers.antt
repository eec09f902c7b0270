-- Current volume and excess come to at most ten times the limit, and the largest factor times that fits a word. Assumes nothing.
use Rattle.basics.proofs.Common.{◌+◌, ◌*◌, ◌≤◌, mul-le-mul, arith}
use Rattle.amount.specs.Amount.{limit}
use Rattle.operational.proofs.charge.Goals as goal

pub overflow_mul-result-2 : goal.overflow_mul-result-2
overflow_mul-result-2 c =
    let b : 5 * c.args.current + c.excess.result ≤ 10 * limit = omega (arith, c.excess.ensures) in
    omega (arith, mul-le-mul c.requires.0 b)
