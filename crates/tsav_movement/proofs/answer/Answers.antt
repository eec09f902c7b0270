-- What the call leaves of the bytes read is printed, and all inputs that are too long are refused alike. Assumes nothing.
use Rattle.basics.proofs.Common.{◌≡◌, ℕ, ◌<◌, List, length, ap, arith, rules, if_ne}
use Rattle.refusal.specs.declared.Place.TheVariants.{Nowhere}
use Rattle.movement_input.specs.Reading.{input_bytes}
use Rattle.text_answer.specs.Lent.Text.{no_text}
use Rattle.text_answer.specs.Printing.{printout}
use Rattle.movement.specs.Call.{movements}
use Rattle.stdio.proofs.PrintedText.{prints}
use Rattle.tsav_movement.proofs.answer.Goals as goal

too_long : (s : List ℕ) → input_bytes < length s → movements s ≡ no_text 2 Nowhere
unfolding movements
too_long s h = if_ne _ (λ e. omega (arith, e, h))

pub returns : goal.returns
returns g c =
    prints _ _ _ _ input_bytes _ (omega arith) (λ s h. ap printout (too_long s h)) (λ s t says. search rules) _ _ _ _ _ c.answer.ensures
