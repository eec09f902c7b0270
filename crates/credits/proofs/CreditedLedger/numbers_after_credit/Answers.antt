-- The block's numbers are those of the lines, and so is the credit that lowers them, which rule 16 lets pass. Assumes nothing.
use Rattle.basics.proofs.Common.{◌≡◌, List, ◌∙◌, props}
use Rattle.mortality.specs.Credit.{lowered}
use Rattle.sheet_line.specs.declared.Entry.{Entry}
use Rattle.ledger.specs.Numbers.{block_of}
use Rattle.credits.specs.Credits.{credit_of, after_credit}
use Rattle.ledger.specs.Lines.{Holds}
use Rattle.ledger.proofs.Tables.{of_lines, numbers_are}
use Rattle.credits.proofs.Acceptance.{entered_accepted, block_accepted}
use Rattle.credits.proofs.CreditedLedger.numbers_after_credit.Goals.{After-credit_of, After-lowered}
use Rattle.credits.proofs.CreditedLedger.numbers_after_credit.Goals as goal

-- the numbers and the credit
read : (c : After-credit_of) (es : List Entry) →
    Holds es c.args.self.now.ledger.now
    → (c.block_numbers-entered.result ≡ block_of es c.args.block) × (c.credit_of.result ≡ credit_of es c.args.block)
read c es H =
    (c.block_numbers-entered.ensures ∙ numbers_are H _ c.requires.0 c.requires.1, c.credit_of.ensures es H)

pub lowered-requires : goal.lowered-requires
lowered-requires c =
    of_lines c.args.self.now.ledger.now (hlevel props)
    (λ es H.
    let r = read c es H in
    rw (r.0, r.1) (c.args.self.now.covered es H _, (entered_accepted es H.lines _).lt_within.0))

-- so they are those after the credit
after : (c : After-lowered) (es : List Entry) → Holds es c.args.self.now.ledger.now → c.lowered.result ≡ after_credit es c.args.block
unfolding after_credit
after c es H = let r = read (goal.at.After-lowered c).After-credit_of es H in c.lowered.ensures ∙ λ i. lowered (r.1 i) (r.0 i)

pub new-requires : goal.new-requires
new-requires c =
    of_lines c.args.self.now.ledger.now (hlevel props)
    (λ es H. rw (after (goal.at.new-requires c).After-lowered es H) (block_accepted es H.lines (c.args.self.now.covered es H) _))

pub returns : goal.returns
returns c es H = c.new.ensures ∙ after (goal.at.returns c).After-lowered es H
