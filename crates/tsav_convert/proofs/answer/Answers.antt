-- What the call leaves of the bytes read is printed, and all sheets that are too long are refused alike. Assumes nothing.
use Rattle.basics.proofs.Common.{◌≡◌, ℕ, ◌<◌, List, length, ap, arith, rules}
use Rattle.refusal.specs.declared.Place.TheVariants.{Nowhere}
use Rattle.sheet_length.specs.Measured.{longest_sheet}
use Rattle.sheet_length.proofs.Measures.{too_long}
use Rattle.text_answer.specs.Lent.Text.{no_text}
use Rattle.text_answer.specs.Printing.{printout}
use Rattle.convert.specs.Call.{conversion}
use Rattle.stdio.proofs.PrintedText.{prints}
use Rattle.tsav_convert.proofs.answer.Goals as goal

above_limit : (s : List ℕ) → longest_sheet < length s → conversion s ≡ no_text 1 Nowhere
unfolding conversion
above_limit s h = rw (too_long s h)

pub returns : goal.returns
returns g c =
    prints _ _ _ _ longest_sheet _ (omega arith) (λ s h. ap printout (above_limit s h)) (λ s t says. search rules) _ _ _ _ _ c.answer.ensures
