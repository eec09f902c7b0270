-- Whenever the loop's test is reached, the sum is that of the first i credits. Assumes nothing.
use Rattle.basics.proofs.Common.{◌≡◌, ◌+◌, refl, arith, props, sum_to, sum_most}
use Rattle.amount.specs.Amount.{limit}
use Rattle.sizes.specs.Sizes.{adjustable_products}
use Rattle.codes.specs.declared.Code.TheVariants.{Crd}
use Rattle.ledger.specs.Numbers.{adjustable_credit}
use Rattle.ledger.proofs.Bounds.{first_most}
use Rattle.ledger.proofs.Tables.{of_lines}
use Rattle.credits.proofs.Credits.{adjustable_key, next_adjustable}
use Rattle.credits.proofs.adjustable_credits.Goals as goal

pub loop-i-init : goal.loop-i-init
unfolding sum_to
loop-i-init c es H = refl

pub amounts-sum-requires : goal.amounts-sum-requires
amounts-sum-requires c = adjustable_key _ (omega arith) (omega (arith, c.loop-i-test.true))

pub overflow_add-sum : goal.overflow_add-sum
overflow_add-sum c =
    of_lines c.args.ledger.now (hlevel props)
    (λ es H.
    let next = next_adjustable H c.loop-i-test.true (c.loop-i.invariant es H) c.amounts-sum.ensures.first in
    omega (arith, next, sum_most (adjustable_credit es) limit (λ b. first_most es H.lines Crd 0 b) (c.loop-i.i + 1), c.loop-i-test.true))

pub loop-i-preserved : goal.loop-i-preserved
loop-i-preserved c es H = next_adjustable H c.loop-i-test.true (c.loop-i.invariant es H) c.amounts-sum.ensures.first

pub returns : goal.returns
returns c es H = let l = c.loop-i in let e : l.i ≡ adjustable_products = omega (arith, l.auto.i-end, c.loop-i-test.false) in rw e at (l.invariant es H)
