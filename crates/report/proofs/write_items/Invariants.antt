use Rattle.report.proofs.Items.{Items}
use Rattle.report.proofs.write_items.Given as goal

abbrev pub invariant-loop-k : goal.invariant-loop-k
invariant-loop-k l = Items l.code l.block l.line l.numbers l.k l.initial.out l.out
