-- Whenever the loop's test is reached, the first margins are found and none of them is negative. Assumes nothing.
use Rattle.basics.proofs.Common.{◌+◌, refl, arith}
use Rattle.shares.proofs.Margins.{sum_fits, found_start, found_negative, next_sum, found_more, found_all}
use Rattle.shares.proofs.margins_of.Goals as goal

pub loop-part-init : goal.loop-part-init
loop-part-init c = found_start _ _ refl

pub returns-then-k-less : goal.returns-then-k-less
returns-then-k-less c =
    found_negative _ _ _ c.requires _ c.k_without-less.ensures _ _ c.loop-part.invariant c.loop-part-test.true (omega (arith, c.if-k-less.true))

pub overflow_add-sum : goal.overflow_add-sum
overflow_add-sum c =
    let h = c.loop-part-test.true in
    let e = next_sum _ _ _ c.requires _ c.k_without-less.ensures _ _ c.loop-part.invariant h c.if-k-less.false in
    omega (arith, e, sum_fits c.args.b.now.numbers c.args.b.now.accepted (c.loop-part.part + 1) (omega arith))

pub loop-part-preserved : goal.loop-part-preserved
loop-part-preserved c =
    found_more _ _ _ c.requires _ c.k_without-less.ensures _ _ c.loop-part.invariant c.loop-part-test.true c.if-k-less.false

pub returns : goal.returns
returns c = found_all _ _ _ _ c.loop-part-test.false c.loop-part.invariant
