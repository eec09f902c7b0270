-- The sheet's answer is its line, and a buffer more in the summary. Assumes nothing.
use Rattle.basics.proofs.Common.{sym, ◌∙◌}
use Rattle.report_line.proofs.LineBytes.{in_columns}
use Rattle.quarter_text.specs.Printout.{columns}
use Rattle.quarter_text.proofs.ClosedSheets.{accepted_line, accepted_fits, accepted_with, refused_line, refused_with}
use Rattle.quarter_text.proofs.answer_sheet.Goals as goal

pub with_sheet-requires : goal.with_sheet-requires
with_sheet-requires c = accepted_fits _ 0 c.in-Ok.ensures c.args.summary c.requires.1

pub returns-in-Ok : goal.returns-in-Ok
returns-in-Ok c = record {
  line_after = in_columns columns c.args.line.now _ _ _ _ c.requires.0 (rw c.word-n.ensures at c.write_in.ensures) ∙ sym (accepted_line _ _ c.in-Ok.ensures);
  summed = λ zs q. accepted_with _ _ c.in-Ok.ensures zs c.word-n.ensures q c.with_sheet.ensures;
}

pub returns-in-Err : goal.returns-in-Err
returns-in-Err c = record {
  line_after = in_columns columns c.args.line.now _ _ _ _ c.requires.0 c.write_refusal.ensures ∙ sym (refused_line _ _ c.in-Err.ensures);
  summed = λ zs q. refused_with _ _ c.in-Err.ensures zs q;
}
