-- Whenever the loop's test is reached, the lines before stand in front of the room as the other sort has them. Assumes nothing.
use Rattle.basics.proofs.Common.{arith, rules}
use Rattle.layout.proofs.WholeLines.{count_lines, within, line_is}
use Rattle.convert.proofs.TwoPasses.{write_start, write_again, write_done}
use Rattle.convert.proofs.write_lines.Goals as goal

pub loop-i-init : goal.loop-i-init
loop-i-init c = write_start _ _ _

pub loop-i-preserved : goal.loop-i-preserved
loop-i-preserved c =
    let e = c.as_chunks.ensures.front in
    let w = rw (line_is _ e c.loop-i-test.true _) at c.write_line.ensures in
    write_again c.loop-i.invariant (within _ e c.loop-i-test.true) c.requires.1 _ w (search rules)

pub returns : goal.returns
returns c = write_done c.loop-i.invariant (omega (arith, c.loop-i-test.false, count_lines _ c.as_chunks.ensures.front)) c.requires.0
