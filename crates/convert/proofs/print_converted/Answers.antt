-- With room for the longest sheet, what is printed is the conversion. Assumes nothing.
use Rattle.basics.proofs.Common.{rules}
use Rattle.convert.proofs.Calls.{printed_sheet}
use Rattle.convert.proofs.print_converted.Goals as goal

pub returns : goal.returns
returns c =
    printed_sheet _ _ (search rules) c.convert_call-answer.result c.convert_call-answer.ensures.answer c.print_answer.ensures
