-- From nothing, row by row; the 49 products in this order are the sum over all i, j. Assumes nothing.
use Rattle.basics.proofs.Common.{arith, to_z-of_z}
use Rattle.integer.specs.Sum.{sum}
use Rattle.guideline.proofs.ProductOrder.{in_order}
use Rattle.correlation.proofs.row_by_row.Goals as goal

pub returns : goal.returns
returns c =
    let all = (in_order c.args.y.now).all in
    grind (arith, to_z-of_z, c.with_row.ensures.sum, all)
