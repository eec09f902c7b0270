use Rattle.basics.proofs.Common.{◌≡◌, ◌-◌}
use Rattle.check_call.specs.Tabled.{counted_to}
use Rattle.check_call.proofs.count_unmet.Given as goal

abbrev pub invariant-loop-n : goal.invariant-loop-n
invariant-loop-n l = l.count ≡ counted_to l.ledger.firsts l.ledger.seconds (l.n - 1)
