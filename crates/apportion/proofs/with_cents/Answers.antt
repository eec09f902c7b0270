-- Whenever the loop's test is reached, the first parts have their cents. Assumes nothing.
use Rattle.basics.proofs.Common.{◌+◌, ltb, sym, refl, arith, listed_start, listed_more, one_most}
use Rattle.sizes.specs.Sizes.{parts}
use Rattle.apportion.specs.Shares.{value_of_part, rank}
use Rattle.apportion.specs.Steps.{quotients, rests}
use Rattle.apportion.proofs.Parts.{quotient_at, part_within}
use Rattle.apportion.proofs.with_cents.Goals as goal

pub loop-part-init : goal.loop-part-init
loop-part-init c = listed_start _ _ _ refl

pub overflow_add-shares : goal.overflow_add-shares
overflow_add-shares c =
    let i = c.loop-part.part in
    let within = part_within (value_of_part (quotients c.args.divided.now)) i c.loop-part-test.true in
    omega (arith, c.requires, within, quotient_at c.args.divided.now i, c.cent.ensures, one_most (ltb (rank (value_of_part (rests c.args.divided.now)) parts (i + 1)) c.args.left))

pub loop-part-preserved : goal.loop-part-preserved
loop-part-preserved c =
    listed_more _ _ _ _ _ c.loop-part-test.true (λ j. sym (quotient_at c.args.divided.now c.loop-part.part) j + c.cent.ensures j) c.loop-part.invariant
