-- A rank, a block and a class are below the base, so no sum or product on the way to the key wraps. Assumes nothing.
use Rattle.basics.proofs.Common.{◌<◌, arith}
use Rattle.codes.proofs.Table.{each_row, rank_of_row}
use Rattle.order.specs.Order.{order_base, key_of}
use Rattle.order.proofs.Ascent.{below_base}
use Rattle.order.proofs.key_of.Goals.{After-row_of}
use Rattle.order.proofs.key_of.Goals as goal

low_rank : (c : After-row_of) → c.row_of.result.rank < order_base
low_rank c = rw c.row_of.ensures (each_row (λ r. r.rank < order_base) (omega arith) c.args.e.code c.args.e.block)

pub overflow_add-result : goal.overflow_add-result
overflow_add-result c = omega (arith, low_rank (goal.at.overflow_add-result c).After-row_of, below_base c.args.e c.requires)

pub overflow_mul-result-2 : goal.overflow_mul-result-2
overflow_mul-result-2 c = omega (arith, low_rank (goal.at.overflow_mul-result-2 c).After-row_of, below_base c.args.e c.requires)

pub overflow_add-result-2 : goal.overflow_add-result-2
overflow_add-result-2 c = omega (arith, low_rank (goal.at.overflow_add-result-2 c).After-row_of, below_base c.args.e c.requires)

pub returns : goal.returns
unfolding key_of
returns c = rw (c.row_of.ensures, rank_of_row c.args.e.code c.args.e.block)
