-- With room for the longest report, what is printed is what the judgement has to say. Assumes nothing.
use Rattle.basics.proofs.Common.{arith}
use Rattle.sheet_answer.proofs.Judgements.{printed_text}
use Rattle.sheet_call.proofs.Rules.{never_longer}
use Rattle.sheet_call.proofs.print_sheet.Goals as goal

pub returns : goal.returns
returns c =
    printed_text _ _ _ (λ es e. never_longer es) (omega arith) c.sheet_call-answer.result c.sheet_call-answer.ensures.answer c.print_answer.ensures
