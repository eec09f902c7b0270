-- The marks of a block's RSK lines and those of its OTH lines. Assumes nothing.
use Rattle.places.proofs.Marks.{or_pick}
use Rattle.places.proofs.block_exists.Goals as goal

pub returns : goal.returns
returns c = rw (c.any_class.ensures, c.any_class-2.ensures) (or_pick _ _)
