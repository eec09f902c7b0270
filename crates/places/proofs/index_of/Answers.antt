-- The index is the definition's, and so it is within the table. Assumes nothing.
use Rattle.basics.proofs.Common.{refl}
use Rattle.places.specs.Places.{index_of}
use Rattle.places.proofs.Indexes.{index_most}
use Rattle.places.proofs.index_of.Goals as goal

pub returns : goal.returns
unfolding index_of
returns c =
    (rw (c.row_of-row.ensures, c.word.ensures, c.saturating_sub.ensures) refl, rw (c.row_of-row.ensures, c.word.ensures, c.saturating_sub.ensures) (index_most _ _ _ c.requires))
