-- With room for the longest listing, what is printed is what the judgement has to say. Assumes nothing.
use Rattle.basics.proofs.Common.{arith}
use Rattle.sheet_answer.proofs.Judgements.{printed_text}
use Rattle.check_call.proofs.Calls.{never_longer}
use Rattle.check_call.proofs.print_check.Goals as goal

pub returns : goal.returns
returns c =
    printed_text _ _ _ (never_longer _) (omega arith) c.check_call-answer.result c.check_call-answer.ensures.answer c.print_answer.ensures
