-- A block that doesn't exist adds its dividend credit alone; the row of one that does goes behind those before it. Assumes nothing.
use Rattle.basics.proofs.Common.{◌≡◌, ◌+◌, ◌*◌, ◌<◌, ◌≤◌, List, length, sym, ap, ◌∙◌, arith, props}
use Rattle.amount.specs.Amount.{limit}
use Rattle.sizes.specs.Sizes.{blocks}
use Rattle.guideline.specs.Block.{K, figures_of}
use Rattle.figures.specs.Parts.{figure_list, figures_are}
use Rattle.sheet_line.specs.declared.Entry.{Entry}
use Rattle.places.specs.Entries.{exists}
use Rattle.ledger.specs.Numbers.{dividend_credit}
use Rattle.credits.specs.Credits.{after_credit}
use Rattle.ledger.specs.Lines.{Holds}
use Rattle.ledger.proofs.Tables.{of_lines, exists_is}
use Rattle.sheet_blocks.proofs.WorkedBlocks.{absent, present, fits, dividends_fit}
use Rattle.sheet_blocks.proofs.work_block.Goals.{After-block_exists, After-figures_of-figures, Start}
use Rattle.sheet_blocks.proofs.work_block.Goals as goal

-- the ledger holds these lines
abbrev Lines : Start → List Entry → Type 0
Lines s es = Holds es s.args.credited.now.ledger.now

-- there is room for a row more, and the sums with its K and its dividend credit fit
room : (c : Start) (es : List Entry) → Lines c es →
    (c.args.w.count < blocks) × (c.args.w.sum + K (after_credit es c.args.block) ≤ 10 * limit * blocks)
    × (c.args.w.dividends + dividend_credit es c.args.block ≤ limit * blocks)
room c es H =
    let w = c.requires.worked_before es H in
    let f = fits es c.requires.block_number.0 w c.requires.block_number.1 H.lines (c.args.credited.now.covered es H) in
    (f.0, f.1, dividends_fit es c.requires.block_number.0 w c.requires.block_number.1 H.lines)

-- the test tells whether the block exists
existence : (c : After-block_exists) (es : List Entry) →
    Lines (goal.at.After-block_exists c).Start es → c.block_exists.result ≡ exists es c.args.block
existence c es H = c.block_exists.ensures ∙ exists_is H _ c.requires.block_number.0 c.requires.block_number.1

pub joined_totals-requires : goal.joined_totals-requires
joined_totals-requires c =
    of_lines c.args.credited.now.ledger.now (hlevel props)
    (λ es H. omega (arith, room (goal.at.joined_totals-requires c).Start es H, c.dividend_credit.ensures es H))

pub returns-then-not-block_exists-clause-worked_out : goal.returns-then-not-block_exists-clause-worked_out
returns-then-not-block_exists-clause-worked_out c es H =
    let block_exists = (goal.at.returns-then-not-block_exists-clause-worked_out c).After-block_exists in
    let s = c.requires in
    rw c.joined_totals.ensures
    (absent es s.block_number.0 (s.worked_before es H) (sym (existence block_exists es H) ∙ c.if-not-block_exists.true) _ _
    (c.dividend_credit.ensures es H) (c.has_dividend.ensures es H))

-- the block's numbers are those of the lines, and so are its figures
figured : (c : After-figures_of-figures) →
    let r = c.figures_of-figures.result in
    (es : List Entry) → Lines (goal.at.After-figures_of-figures c).Start es
    → (figure_list r ≡ figures_of (after_credit es c.args.block)) × (r.k ≡ K (after_credit es c.args.block))
figured c es H =
    let f = c.figures_of-figures.ensures ∙ ap figures_of (c.numbers_after_credit-numbers.ensures es H) in
    (f, (figures_are _ _ f).4)

pub joined_totals-requires-2 : goal.joined_totals-requires-2
joined_totals-requires-2 c =
    let start = (goal.at.joined_totals-requires-2 c).Start in
    let figures_of_figures = (goal.at.joined_totals-requires-2 c).After-figures_of-figures in
    of_lines c.args.credited.now.ledger.now (hlevel props)
    (λ es H. omega (arith, room start es H, (figured figures_of_figures es H).1, c.dividend_credit-dividend.ensures es H))

pub returns-clause-worked_out : goal.returns-clause-worked_out
returns-clause-worked_out c es H =
    let start = (goal.at.returns-clause-worked_out c).Start in
    let block_exists = (goal.at.returns-clause-worked_out c).After-block_exists in
    let fits : c.args.w.count < length c.args.rows.now = omega (arith, (room start es H).0, c.told-rows) in
    rw (c.joined_totals-2.ensures, c.word.ensures)
    (present es c.requires.block_number.0 (c.requires.worked_before es H) fits
    (sym (existence block_exists es H) ∙ c.if-not-block_exists.false) _ _
    (figured (goal.at.returns-clause-worked_out c).After-figures_of-figures es H).0 (c.dividend_credit-dividend.ensures es H))

pub bounds-rows-w : goal.bounds-rows-w
bounds-rows-w c = of_lines c.args.credited.now.ledger.now (hlevel props) (λ es H. (room (goal.at.bounds-rows-w c).Start es H).0)

pub offset_bounds-rows-w : goal.offset_bounds-rows-w
offset_bounds-rows-w c =
    of_lines c.args.credited.now.ledger.now (hlevel props) (λ es H. omega (arith, (room (goal.at.offset_bounds-rows-w c).Start es H).0))
