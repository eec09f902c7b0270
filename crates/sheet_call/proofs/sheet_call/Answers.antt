-- What judging tells is what the judgement has to tell, so each way out is the call's: a refusal, rule 14, or the report. Assumes nothing.
use Rattle.basics.proofs.Common.{◌≡◌, [], length, take, sym, arith, length-take-le}
use Rattle.sheet_call.proofs.Rules.{few, too_short, reported}
use Rattle.sheet_call.proofs.Accuracy.{promised}
use Rattle.sheet_call.proofs.sheet_call.Goals.{Else-report-length}
use Rattle.sheet_call.proofs.sheet_call.Goals as goal

pub returns-then-report-length : goal.returns-then-report-length
returns-then-report-length c =
    promised _ _ _ (too_short _ _ _ _ _ _ _ c.in_ok-t.ensures.findings c.length_for-length.ensures (omega (arith, c.if-report-length.true)))

-- the rows of the blocks that exist are as many as these
taken : (c : Else-report-length) → length (take c.in_ok-t.t.count c.judge.new.rows) ≡ c.in_ok-t.t.count
taken c = length-take-le _ _ (omega (arith, few _ [] _ _ _ _ _ c.in_ok-t.ensures.findings, c.judge.array_long))

pub slice_bounds-write_report-end : goal.slice_bounds-write_report-end
slice_bounds-write_report-end c = sym (taken (goal.at.slice_bounds-write_report-end c).Else-report-length)

pub returns : goal.returns
returns c =
    promised _ _ _
    (reported _ _ _ _ _ _ _ c.in_ok-t.ensures.findings c.length_for-length.ensures c.if-report-length.false
    (rw (taken (goal.at.returns c).Else-report-length) at c.write_report.ensures))
