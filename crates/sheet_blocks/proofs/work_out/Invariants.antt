use Rattle.ledger.specs.Lines.{OfLines}
use Rattle.sheet_blocks.specs.Steps.{WorkedOut, RestKept}
use Rattle.sheet_blocks.proofs.work_out.Given as goal

abbrev pub invariant-loop-i : goal.invariant-loop-i
invariant-loop-i l = OfLines l.credited.ledger.now (λ es. WorkedOut es l.i l.w l.rows) × RestKept l.w.count l.initial.rows l.rows
