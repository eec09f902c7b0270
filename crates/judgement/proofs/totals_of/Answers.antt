-- Rules 17 and 13 in turn; past both, each number that is worked out is the lines' own. Assumes nothing.
use Rattle.basics.proofs.Common.{◌≡◌, ◌+◌, ◌-◌, ◌≤◌, false, List, sym, ◌∙◌, arith, props, any_to}
use Rattle.sizes.specs.Sizes.{blocks}
use Rattle.guideline.specs.Buffer.{free, available, most_available}
use Rattle.sheet_line.specs.declared.Entry.{Entry}
use Rattle.judgement.specs.Sheet.{sheet_of}
use Rattle.sheet_blocks.specs.Blocks.{dividend_barred}
use Rattle.ledger.specs.Lines.{Holds}
use Rattle.ledger.proofs.Tables.{of_lines, general_is}
use Rattle.judgement.proofs.Acceptance.{dividends_most, available_small, free_small, scalar_most}
use Rattle.judgement.proofs.TotalParts.{available_is, buffer_is}
use Rattle.judgement.proofs.Rules.{dividend_above, credits_above, passes, figured}
use Rattle.judgement.proofs.totals_of.Goals.{After-general_amount, After-general_amount-2, After-general_amount-3, Else-w, Start}
use Rattle.judgement.proofs.totals_of.Goals as goal

-- the ledger holds these lines
abbrev Lines : Start → List Entry → Type 0
Lines s es = Holds es s.args.credited.now.ledger.now

pub returns-then-w-clause-findings : goal.returns-then-w-clause-findings
returns-then-w-clause-findings c es H = dividend_above es (sym (c.work_out-w.ensures.worked_out es H).barred ∙ c.if-w.true)

-- rule 17 bars no dividend credit
none_barred : (c : Else-w) (es : List Entry) → Lines (goal.at.Else-w c).Start es → any_to (dividend_barred es) blocks ≡ false
none_barred c es H = sym (c.work_out-w.ensures.worked_out es H).barred ∙ c.if-w.false

-- so they can be taken off the sum of K
pub overflow_sub-available : goal.overflow_sub-available
overflow_sub-available c =
    of_lines c.args.credited.now.ledger.now (hlevel props)
    (λ es H.
    let e = c.work_out-w.ensures.worked_out es H in
    omega (arith, e.sum, e.dividends, dividends_most es H.lines blocks (none_barred (goal.at.overflow_sub-available c).Else-w es H)))

-- what rule 13 compares the credits with
total : (c : After-general_amount) →
    let w = c.work_out-w.result in
    (es : List Entry) → Lines (goal.at.After-general_amount c).Start es
    → w.sum - w.dividends + c.general_amount.result + c.operational_figure-ro.result ≡ available (sheet_of es)
unfolding sheet_of
total c es H =
    let e = c.work_out-w.ensures.worked_out es H in
    available_is es _ _ _ _ e.sum e.dividends (c.general_amount.ensures ∙ general_is H 2 (omega arith, omega arith))
    (c.operational_figure-ro.ensures es H)

small : (c : After-general_amount) →
    let w = c.work_out-w.result in
    w.sum - w.dividends + c.general_amount.result + c.operational_figure-ro.result ≤ most_available
small c =
    of_lines c.args.credited.now.ledger.now (hlevel props)
    (λ es H. omega (arith, total c es H, available_small es H.lines (c.args.credited.now.covered es H)))

-- the credits that belong to no block
free_is : (c : After-general_amount-2) (es : List Entry) → Lines (goal.at.After-general_amount-2 c).Start es
    → c.adjustable_credits.result + c.general_amount-2.result ≡ free (sheet_of es)
unfolding sheet_of
free_is c es H =
    let a = c.adjustable_credits.ensures es H in
    let g = c.general_amount-2.ensures ∙ general_is H 5 (omega arith, omega arith) in
    λ i. a i + g i

pub overflow_add-free : goal.overflow_add-free
overflow_add-free c = of_lines c.args.credited.now.ledger.now (hlevel props) (λ es H. omega (arith, free_is c es H, free_small es H.lines))

pub returns-then-available-free-clause-findings : goal.returns-then-available-free-clause-findings
returns-then-available-free-clause-findings c es H =
    let at_w = (goal.at.returns-then-available-free-clause-findings c).Else-w in
    let general_amount = (goal.at.returns-then-available-free-clause-findings c).After-general_amount in
    let general_amount_2 = (goal.at.returns-then-available-free-clause-findings c).After-general_amount-2 in
    credits_above es (none_barred at_w es H)
    (omega (arith, c.if-available-free.true, total general_amount es H, free_is general_amount_2 es H))

scalar_is_g : (c : After-general_amount-3) (es : List Entry) → Lines (goal.at.After-general_amount-3 c).Start es
    → c.general_amount-3.result ≡ (sheet_of es).g
unfolding sheet_of
scalar_is_g c es H = c.general_amount-3.ensures ∙ general_is H 4 (omega arith, omega arith)

pub times_scalar-buffer-requires : goal.times_scalar-buffer-requires
times_scalar-buffer-requires c =
    let general_amount = (goal.at.times_scalar-buffer-requires c).After-general_amount in
    of_lines c.args.credited.now.ledger.now (hlevel props)
    (λ es H. (omega (arith, scalar_is_g c es H, scalar_most es H.lines), omega (arith, small general_amount)))

pub returns-clause-findings : goal.returns-clause-findings
unfolding sheet_of
returns-clause-findings c es H =
    let at_w = (goal.at.returns-clause-findings c).Else-w in
    let bracket = total (goal.at.returns-clause-findings c).After-general_amount es H in
    let credits = free_is (goal.at.returns-clause-findings c).After-general_amount-2 es H in
    let g = scalar_is_g (goal.at.returns-clause-findings c).After-general_amount-3 es H in
    let worked = c.work_out-w.ensures.worked_out es H in
    figured es
    (record {
      count_is = worked.count;
      rows_are = worked.front;
      sum_is = worked.sum;
      ro_is = c.operational_figure-ro.ensures es H;
      buffer_is = buffer_is es _ _ _ _ g bracket credits c.times_scalar-buffer.ensures;
    })
    ∙ passes es (none_barred at_w es H) (omega (arith, c.if-available-free.false, bracket, credits))

pub overflow_add-available : goal.overflow_add-available
overflow_add-available c = omega (arith, small c)

pub overflow_add-available-2 : goal.overflow_add-available-2
overflow_add-available-2 c = omega (arith, small c)
