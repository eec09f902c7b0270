-- The mean and its remainder are those of the count, and 0 where it is 0. Assumes nothing.
use Rattle.summary.proofs.Summaries.{mean_some, mean_none}
use Rattle.summary.proofs.items.Goals as goal

pub returns-then-s-eq0 : goal.returns-then-s-eq0
returns-then-s-eq0 c = let m = mean_none c.args.s c.if-s-eq0.true in rw (← m.0, ← m.1)

pub returns-else-s-eq0 : goal.returns-else-s-eq0
returns-else-s-eq0 c = let m = mean_some c.args.s c.if-s-eq0.false in rw (m.0, m.1)
