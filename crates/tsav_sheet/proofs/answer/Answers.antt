-- What the call leaves of the bytes read is printed, and all sheets that are too long are refused alike. Assumes nothing.
use Rattle.basics.proofs.Common.{ap, arith, rules}
use Rattle.sheet_length.specs.Measured.{longest_sheet}
use Rattle.judgement.proofs.Lengths.{above_limit}
use Rattle.text_answer.specs.Printing.{printout}
use Rattle.sheet_call.specs.Call.{answer_to}
use Rattle.stdio.proofs.PrintedText.{prints}
use Rattle.tsav_sheet.proofs.answer.Goals as goal

pub returns : goal.returns
returns g c =
    prints _ _ _ _ longest_sheet _ (omega arith) (λ s h. ap (λ j. printout (answer_to j)) (above_limit s h)) (λ s t says. search rules)
    _ _ _ _ _ c.answer.ensures
