-- Whenever the loop's test is reached, the first i credits are those of blocks 1 to i. Assumes nothing.
use Rattle.basics.proofs.Common.{refl, arith, props}
use Rattle.ledger.proofs.Tables.{of_lines}
use Rattle.credits.proofs.Credits.{mortality_key, sums_most, next_credit}
use Rattle.credits.proofs.credits_of.Goals as goal

pub loop-i-init : goal.loop-i-init
loop-i-init c = λ es H. record { found = λ k l. absurd (omega arith); long = refl }

pub amounts-sums-requires : goal.amounts-sums-requires
amounts-sums-requires c = mortality_key _ c.loop-i-test.true

pub credit-requires : goal.credit-requires
credit-requires c =
    of_lines c.args.ledger.now (hlevel props)
    (λ es H.
    let b = sums_most H c.loop-i-test.true in
    (omega (arith, c.amounts-sums.ensures.first, b.0), omega (arith, c.amounts-sums.ensures.second, b.1)))

pub bounds-credits-i : goal.bounds-credits-i
bounds-credits-i c =
    of_lines c.args.ledger.now (hlevel props) (λ es H. omega (arith, (c.loop-i.invariant es H).long, c.loop-i-test.true))

pub loop-i-preserved : goal.loop-i-preserved
loop-i-preserved c es H =
    next_credit H c.loop-i-test.true (c.loop-i.invariant es H) _ (rw (← c.amounts-sums.ensures.first, ← c.amounts-sums.ensures.second) c.credit.ensures)

pub returns : goal.returns
returns c es H i h = (c.loop-i.invariant es H).found i (omega (arith, c.loop-i-test.false))
