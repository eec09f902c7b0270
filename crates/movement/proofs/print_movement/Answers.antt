-- The room has the length of the lines, so what is printed is what the input gives. Assumes nothing.
use Rattle.basics.proofs.Common.{arith}
use Rattle.movement.proofs.Calls.{printed_movements}
use Rattle.movement.proofs.print_movement.Goals as goal

pub returns : goal.returns
returns c =
    printed_movements _ _ c.movement_call-answer.result (omega (arith, c.print_answer-arg-1.given)) c.movement_call-answer.ensures.answer c.print_answer.ensures
