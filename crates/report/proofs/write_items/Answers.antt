-- Whenever the loop's test is reached, the lines of the first k numbers stand in front. Assumes nothing.
use Rattle.report.proofs.Items.{no_item, next_item}
use Rattle.basics.proofs.Common.{rules}
use Rattle.report.proofs.write_items.Goals as goal

pub loop-k-init : goal.loop-k-init
loop-k-init c = no_item c.args.code c.args.block _ c.args.numbers.now _

pub loop-k-preserved : goal.loop-k-preserved
loop-k-preserved c =
    next_item _ _ c.loop-k.invariant c.requires.0 c.requires.1 c.loop-k-test.true (search rules) (rw c.word-item.ensures at c.write_in.ensures)
