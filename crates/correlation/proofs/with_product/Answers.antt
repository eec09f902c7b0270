-- One product more, by the factor of its place. A signed local holds bits, and each read gives  to_z w128 (of_z w128 x),  which is x.
-- Assumes nothing.
use Rattle.basics.proofs.Common.{◌+◌, ◌*◌, ◌^◌, ◌≤◌, pos, ◌*ℤ◌, nat_abs, arith, to_z-of_z}
use Rattle.sizes.specs.Sizes.{risks}
use Rattle.correlation.proofs.RunningSum.{product, term_small, next}
use Rattle.correlation.proofs.with_product.Goals.{After-from-3}
use Rattle.correlation.proofs.with_product.Goals as goal

small : (c : After-from-3) → let p = product c.args.y.now c.args.row c.args.column in (p ≤ 2 ^ 96) × (nat_abs (c.args.quarters *ℤ pos p) ≤ 2 ^ 98)
small c =
    let a = c.args in
    term_small a.y.now c.requires.so_far.small a.row a.column (risks * a.row + a.column) a.quarters c.requires.is_factor

pub overflow_mul-result-2 : goal.overflow_mul-result-2
overflow_mul-result-2 c = grind (arith, to_z-of_z, small (goal.at.overflow_mul-result-2 c).After-from-3)

pub overflow_add-result : goal.overflow_add-result
overflow_add-result c = grind (arith, to_z-of_z, small (goal.at.overflow_add-result c).After-from-3)

pub returns : goal.returns
returns c =
    let a = c.args in
    let r = c.requires in
    let m = small (goal.at.returns c).After-from-3 in
    next a.y.now a.row a.column a.before a.quarters _ r.so_far r.in_table.1 r.is_factor (grind (arith, to_z-of_z, m))
