-- Whenever the loop's test is reached, those of the first parts that come before this one are counted. Assumes nothing.
use Rattle.basics.proofs.Common.{◌≡◌, ◌+◌, arith, count_to, one, sum_step, count_most}
use Rattle.apportion.specs.Shares.{value_of_part, before}
use Rattle.apportion.specs.Steps.{rests}
use Rattle.apportion.proofs.Parts.{counted}
use Rattle.apportion.proofs.rank_of.Goals.{After-one_if_before-before}
use Rattle.apportion.proofs.rank_of.Goals as goal

-- with the next part
next : (c : After-one_if_before-before) →
    let a = c.args in
    c.loop-other.before + c.one_if_before-before.result ≡ count_to (λ q. before (value_of_part (rests a.divided.now)) q a.part) (c.loop-other.other + 1)
next c =
    let e = counted c.args.divided.now c.loop-other.other c.args.part c.requires.0 in
    omega (arith, c.loop-other.invariant, c.one_if_before-before.ensures, e, sum_step (λ q. one (before (value_of_part (rests c.args.divided.now)) q c.args.part)) c.loop-other.other)

pub overflow_add-before : goal.overflow_add-before
overflow_add-before c =
    let a = c.args in
    omega (arith, next c, count_most (λ q. before (value_of_part (rests a.divided.now)) q a.part) (c.loop-other.other + 1), c.loop-other-test.true)

pub loop-other-preserved : goal.loop-other-preserved
loop-other-preserved c = next c
