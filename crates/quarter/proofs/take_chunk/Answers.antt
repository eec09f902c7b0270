-- Whenever the loop's test is reached, the chunk is taken up to a place, whichever bytes came before it; more than 60 sheets stay more. Assumes nothing.
use Rattle.basics.proofs.Common.{◌≡◌, ◌+◌, ◌≤◌, length, arith, stretch_long}
use Rattle.report_line.specs.Line.{line_bytes}
use Rattle.quarter_text.specs.Printout.{columns}
use Rattle.quarter.specs.Steps.{lines_long, longest_output}
use Rattle.quarter.proofs.Chunks.{at_first, of_held, out_is, held_within, fits, line_fits, taken_all, taken_many, taken_on, taken_next, taken_over}
use Rattle.quarter.proofs.take_chunk.Goals.{In-Break}
use Rattle.quarter.proofs.take_chunk.Goals as goal

pub returns-in_default : goal.returns-in_default
returns-in_default c = taken_over _ _ _ _ c.in_default.is

pub loop-at-init : goal.loop-at-init
loop-at-init c = at_first c.in-Some.is c.args.chunk.now c.requires

pub returns-then-sheets-eq-MOST_SHEETS : goal.returns-then-sheets-eq-MOST_SHEETS
returns-then-sheets-eq-MOST_SHEETS c =
    of_held c.in-Some.is (taken_many c.loop-at.invariant (omega (arith, c.if-sheets-eq-MOST_SHEETS.true)) c.loop-at-test.true)

pub scan-requires-clause-within : goal.scan-requires-clause-within
scan-requires-clause-within c = held_within c.loop-at.invariant

pub returns-in-Continue : goal.returns-in-Continue
returns-in-Continue c =
    of_held c.in-Some.is (taken_on c.loop-at.invariant c.scan.ensures c.scan.auto.room c.if-sheets-eq-MOST_SHEETS.false c.in-Continue.is)

-- the line of a closed sheet has a place
closed : (c : In-Break) → (lines_long c.loop-at.sheets + line_bytes columns ≤ length c.loop-at.out) × (length c.loop-at.out ≡ longest_output)
closed c = (line_fits c.loop-at.invariant c.if-sheets-eq-MOST_SHEETS.false, out_is c.loop-at.invariant)

pub answer_sheet-summary-requires : goal.answer_sheet-summary-requires
answer_sheet-summary-requires c =
    (stretch_long _ _ _ (line_fits c.loop-at.invariant c.if-sheets-eq-MOST_SHEETS.false), fits c.loop-at.invariant)

pub loop-at-preserved : goal.loop-at-preserved
loop-at-preserved c =
    taken_next c.loop-at.invariant c.scan.ensures c.scan.auto.room c.if-sheets-eq-MOST_SHEETS.false c.in-Break.is
    c.answer_sheet-summary.ensures.line_after c.new_sheet-held.ensures c.answer_sheet-summary.ensures.summed

pub returns : goal.returns
returns c = of_held c.in-Some.is (taken_all c.loop-at.invariant c.loop-at-test.false)

pub overflow_mul-from : goal.overflow_mul-from
overflow_mul-from c = let k = closed c in omega (arith, k.0, k.1)

pub overflow_add-sheets : goal.overflow_add-sheets
overflow_add-sheets c = let k = closed c in omega (arith, k.0, k.1)

pub overflow_add-from : goal.overflow_add-from
overflow_add-from c = let k = closed (goal.at.overflow_add-from c).In-Break in omega (arith, k.0, k.1)

pub slice_bounds-answer_sheet-end-in-Break : goal.slice_bounds-answer_sheet-end-in-Break
slice_bounds-answer_sheet-end-in-Break c = let k = closed (goal.at.slice_bounds-answer_sheet-end-in-Break c).In-Break in omega (arith, k.0)
