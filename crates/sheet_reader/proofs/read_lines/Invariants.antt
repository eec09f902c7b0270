use Rattle.sheet_reader.proofs.FilledLedger.{FilledTo}
use Rattle.sheet_reader.proofs.read_lines.Given as goal

abbrev pub invariant-loop-i : goal.invariant-loop-i
invariant-loop-i l = FilledTo l.sheet l.ledger l.last l.i
