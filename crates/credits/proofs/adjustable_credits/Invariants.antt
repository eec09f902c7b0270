use Rattle.basics.proofs.Common.{◌≡◌, sum_to}
use Rattle.ledger.specs.Numbers.{adjustable_credit}
use Rattle.ledger.specs.Lines.{OfLines}
use Rattle.credits.proofs.adjustable_credits.Given as goal

abbrev pub invariant-loop-i : goal.invariant-loop-i
invariant-loop-i l = OfLines l.ledger (λ es. l.sum ≡ sum_to (adjustable_credit es) l.i)
