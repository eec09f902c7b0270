-- Whenever the loop's test is reached, what is left of the chunk gives what all of it gives. Assumes nothing.
use Rattle.quarter_stream.proofs.Room.{all_scanned, scanned_closed, scanned_on}
use Rattle.quarter_stream.proofs.scan.Goals as goal

pub returns-in-Break : goal.returns-in-Break
returns-in-Break c = scanned_closed c.loop-i.invariant c.loop-i-test.true c.next_byte.ensures c.in-Break.is

pub loop-i-preserved : goal.loop-i-preserved
loop-i-preserved c =
    scanned_on c.loop-i.invariant c.loop-i-test.true c.next_byte.ensures c.in-Continue.is c.next_byte.auto.room

pub returns : goal.returns
returns c = all_scanned c.loop-i.invariant c.loop-i-test.false
