-- The converter's refusals: the number and the place of each are read back off its line, and 14 comes only where the room is shorter than the
-- sheet, of which the converted one has the length. Assumes nothing.
use Rattle.basics.proofs.Common.{◌≡◌, ℕ, ◌<◌, List, length, arith}
use Rattle.refusal.specs.Outcome.Outcome.{refused}
use Rattle.refusal.specs.declared.Place.{Place, TheVariants.Nowhere}
use Rattle.text_answer.specs.Lent.{TooLong, Text.no_text}
use Rattle.text_answer.specs.Printing.{ReadsRefusal, printout}
use Rattle.text_answer.proofs.LentRoom as lent
use Rattle.convert.specs.Call.{conversion, convert_call}
use Rattle.convert.proofs.RoundTrip.{same_length}
use Rattle.convert.proofs.Calls.{right_numbers}

pub refusal_read : (s : List ℕ) (n : ℕ) (p : Place) → conversion s ≡ no_text n p → ReadsRefusal n p (printout (conversion s))
refusal_read s = lent.refusal_read _ (right_numbers s)

-- '14 (the output shorter than the sheet) comes last': the sheet has a converted one, of its own length, which is above the room's
pub refused_by_14 : (s r : List ℕ) (p : Place) → (convert_call s r).outcome ≡ refused 14 p
    → (p ≡ Nowhere) × (w : TooLong (convert_call s) (conversion s) r) × (length (w.text) ≡ length s) × (length r < length s)
unfolding convert_call
refused_by_14 s r p e =
    let w = lent.refused_by_14 _ r (right_numbers s) p e in
    let m : length (w.1.text) ≡ length s = same_length s (w.1.text) (w.1.says) in
    (w.0, w.1, m, omega (arith, w.1.longer, m))
