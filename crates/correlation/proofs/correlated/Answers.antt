-- The sum over all i, j is never below 0. Assumes nothing.
use Rattle.basics.proofs.Common.{arith, to_z-of_z}
use Rattle.guideline.proofs.Table.{quarter_natural}
use Rattle.correlation.proofs.correlated.Goals as goal

pub in_words-requires : goal.in_words-requires
in_words-requires c =
    let n = quarter_natural c.args.y.now in
    (n.0, grind (arith, to_z-of_z, c.row_by_row.ensures, n.1))
