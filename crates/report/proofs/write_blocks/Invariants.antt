use Rattle.report.proofs.Tables.{Rows}
use Rattle.report.proofs.write_blocks.Given as goal

abbrev pub invariant-loop-i : goal.invariant-loop-i
invariant-loop-i l = Rows l.rows l.i l.initial.report l.report
