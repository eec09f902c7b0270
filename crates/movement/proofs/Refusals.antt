-- The refusals of the movement call: the number and the place of each are read back off its line, of the whole input and of one risk; and when 14
-- comes. Assumes nothing.
use Rattle.basics.proofs.Common.{◌≡◌, ℕ, ◌+◌, ◌*◌, ◌<◌, ◌≤◌, List, length, arith, if_lt}
use Rattle.refusal.specs.Outcome.{Judging, printed, Outcome.refused}
use Rattle.refusal.specs.declared.Place.{Place, TheVariants.Risk, TheVariants.Nowhere}
use Rattle.amount.specs.Amount.{limit}
use Rattle.sizes.specs.Sizes.{risks, number_columns, FitsColumns}
use Rattle.guideline.specs.Block.{ir}
use Rattle.report_line.specs.Line.{report_line_bytes}
use Rattle.text_answer.specs.Lent.{TooLong, Text.no_text}
use Rattle.text_answer.specs.Printing.{ReadsRefusal, printout}
use Rattle.text_answer.proofs.LentRoom.{refusal_row_fits, line_read}
use Rattle.text_answer.proofs.LentRoom as lent
use Rattle.movement.specs.Call.{risk_line, movements, movement_call}
use Rattle.movement.proofs.Calls.{right_numbers, room_for}

module _ (s : List ℕ) where
  numbered : (n : ℕ) (p : Place) → movements s ≡ no_text n p → Judging n × FitsColumns (printed p)
  numbered n p e = let w = right_numbers s n p e in (w.1, w.2)

  pub refusal_read : (n : ℕ) (p : Place) → movements s ≡ no_text n p → ReadsRefusal n p (printout (movements s))
  refusal_read = lent.refusal_read _ numbered

  module _ (r : List ℕ) (p : Place) where
    -- with room for the lines it never answers 14
    pub never_14 : report_line_bytes * risks ≤ length r → (movement_call s r).outcome ≡ refused 14 p → ⊥
    unfolding movement_call
    never_14 long = lent.never_14 _ r numbered (room_for s r long) p

    -- where it does, there are lines, and they are longer than the room
    pub refused_by_14 : (movement_call s r).outcome ≡ refused 14 p → (p ≡ Nowhere) × TooLong (movement_call s) (movements s) r
    unfolding movement_call
    refused_by_14 = lent.refused_by_14 _ r numbered p

-- 'as number 22 with its risk', in the place of the risk's line
pub risk_read : (b : List ℕ) (t i : ℕ) → i ≤ risks → limit < ir b i + t → ReadsRefusal 22 (Risk i) (risk_line b t i)
unfolding risk_line
risk_read b t i h l = rw (if_lt _ l) (line_read 22 (Risk i) (refusal_row_fits number_columns 22 (Risk i) (omega arith) (omega arith)))
