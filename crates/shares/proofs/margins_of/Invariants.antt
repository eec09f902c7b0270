use Rattle.shares.proofs.Margins.{FoundTo}
use Rattle.shares.proofs.margins_of.Given as goal

abbrev pub invariant-loop-part : goal.invariant-loop-part
invariant-loop-part l = FoundTo l.b.numbers l.each l.sum l.part
