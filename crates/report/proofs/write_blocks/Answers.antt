-- Whenever the loop's test is reached, the lines of the first i rows stand in front. Assumes nothing.
use Rattle.basics.proofs.Common.{arith}
use Rattle.report.proofs.Tables.{no_row, next_row}
use Rattle.report.proofs.write_blocks.Goals as goal

pub loop-i-init : goal.loop-i-init
loop-i-init c = no_row c.args.rows.now _

pub loop-i-preserved : goal.loop-i-preserved
loop-i-preserved c =
    next_row c.loop-i.invariant c.loop-i-test.true (omega (arith, c.requires.1, c.loop-i.auto.report, c.loop-i-test.true)) c.write_items.ensures
