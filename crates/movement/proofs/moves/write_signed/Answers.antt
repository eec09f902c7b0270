-- The number's columns are written over those of a line that says 0. Assumes nothing.
use Rattle.movement.proofs.Lines.{signed_in}
use Rattle.movement.proofs.moves.write_signed.Goals as goal

pub returns : goal.returns
returns c = signed_in _ _ _ c.write.ensures c.write_difference.ensures
