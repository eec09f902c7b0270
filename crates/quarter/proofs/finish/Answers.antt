-- The last lines go behind those of the sheets: that of 24 or 25, or the summary. Assumes nothing.
use Rattle.basics.proofs.Common.{◌≡◌, ◌+◌, ◌≤◌, length, arith}
use Rattle.quarter.specs.Steps.{lines_long, longest_output}
use Rattle.quarter.proofs.InputEnd.{room_left, finished_24, finished_25, finished_summary}
use Rattle.quarter.proofs.finish.Goals.{Start}
use Rattle.quarter.proofs.finish.Goals as goal

-- there is room for the summary
left : (c : Start) → (lines_long c.args.q.sheets + lines_long 8 ≤ length c.args.out.now) × (length c.args.out.now ≡ longest_output)
left c = room_left c.requires

pub returns-in_default : goal.returns-in_default
returns-in_default c =
    finished_24 _ _ (left (goal.at.returns-in_default c).Start).0 c.in_default.is _ c.write_refusal.ensures

pub returns-then-held-ne0 : goal.returns-then-held-ne0
returns-then-held-ne0 c =
    finished_25 _ _ (left (goal.at.returns-then-held-ne0 c).Start).0 c.in-Some.is c.if-held-ne0.true _ c.write_refusal-then-held-ne0.ensures

pub returns : goal.returns
returns c =
    finished_summary _ _ (left (goal.at.returns c).Start).0 c.in-Some.is c.if-held-ne0.false _ (rw c.items-items.ensures at c.write_items.ensures)

pub overflow_mul-from : goal.overflow_mul-from
overflow_mul-from c = omega (arith, left (goal.at.overflow_mul-from c).Start)

pub overflow_add-line : goal.overflow_add-line
overflow_add-line c = omega (arith, left (goal.at.overflow_add-line c).Start)

pub slice_bounds-write_refusal-end : goal.slice_bounds-write_refusal-end
slice_bounds-write_refusal-end c = omega (arith, left (goal.at.slice_bounds-write_refusal-end c).Start)

pub slice_bounds-write_refusal-end-then-held-ne0 : goal.slice_bounds-write_refusal-end-then-held-ne0
slice_bounds-write_refusal-end-then-held-ne0 c = omega (arith, left (goal.at.slice_bounds-write_refusal-end-then-held-ne0 c).Start)

pub overflow_add-end : goal.overflow_add-end
overflow_add-end c = omega (arith, left (goal.at.overflow_add-end c).Start)

pub slice_bounds-write_items-end : goal.slice_bounds-write_items-end
slice_bounds-write_items-end c = omega (arith, left (goal.at.slice_bounds-write_items-end c).Start)
