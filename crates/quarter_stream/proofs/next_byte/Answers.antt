-- A line feed closes the sheet or ends its line, any other byte goes on with the line. Assumes nothing.
use Rattle.basics.proofs.Common.{◌≡◌, true, rules, never}
use Rattle.quarter_stream.proofs.Room.{closes, ends_line, goes_on}
use Rattle.quarter_stream.proofs.next_byte.Goals as goal

pub returns-then-eq : goal.returns-then-eq
returns-then-eq c = closes c.requires c.if-b-eq10.true (search rules)

pub returns-then-b-eq10 : goal.returns-then-b-eq10
returns-then-b-eq10 c =
    ends_line c.requires c.put_byte-length.ensures c.if-b-eq10.true
    (λ e. let t : c.eq.result ≡ true = rw e at c.eq.ensures in never (cc (t, c.if-eq.false)))

pub returns : goal.returns
returns c = goes_on c.requires c.put_byte-length-2.ensures c.if-b-eq10.false c.count.ensures
