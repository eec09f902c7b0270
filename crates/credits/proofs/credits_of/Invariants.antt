use Rattle.ledger.specs.Lines.{OfLines}
use Rattle.credits.proofs.Credits.{CreditsTo}
use Rattle.credits.proofs.credits_of.Given as goal

abbrev pub invariant-loop-i : goal.invariant-loop-i
invariant-loop-i l = OfLines l.ledger (λ es. CreditsTo es l.i l.credits)
