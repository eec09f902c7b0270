-- Whenever the loop's test is reached, the first i pairs are those of the block's RSK lines; after it the three other amounts follow. Assumes nothing.
use Rattle.basics.proofs.Common.{refl, arith, rules}
use Rattle.ledger.proofs.Numbers.{no_pair, next_pair, block_written}
use Rattle.ledger.proofs.Ledger.block_numbers.Goals as goal

pub loop-i-preserved : goal.loop-i-preserved
loop-i-preserved c =
    let e = c.index_of-at.ensures.0 in
    next_pair c.loop-i.invariant (search rules) (rw e) (rw e)

pub returns : goal.returns
returns c =
    let l = c.loop-i.invariant in
    let a = c.args.self.now in
    block_written _ a.firsts a.seconds refl l (omega (arith, c.loop-i.auto.i-end, c.loop-i-test.false)) (rw c.index_of.ensures.0) (rw c.index_of-2.ensures.0)
    (rw c.index_of-3.ensures.0)

pub loop-i-init : goal.loop-i-init
loop-i-init c = no_pair
