-- Rules 12 and 16 in turn; past both, rules 17 and 13 are told of lines whose credits none of its blocks' LT(1) falls short of. Assumes nothing.
use Rattle.basics.proofs.Common.{◌≡◌, true, List, sym, ◌∙◌}
use Rattle.codes.specs.Codes.{scalar_class}
use Rattle.codes.specs.declared.Code.TheVariants.{Gen}
use Rattle.sheet_line.specs.declared.Entry.{Entry}
use Rattle.places.specs.Entries.{has_line}
use Rattle.ledger.specs.Lines.{Holds}
use Rattle.ledger.proofs.Tables.{scalar_is}
use Rattle.judgement.proofs.Rules.{no_scalar, credit_above_lem, credits_pass}
use Rattle.judgement.proofs.after_lines.Goals.{Else-not-has_scalar, Start}
use Rattle.judgement.proofs.after_lines.Goals as goal

-- the ledger holds these lines
abbrev Lines : Start → List Entry → Type 0
Lines s es = Holds es s.args.ledger.now

pub returns-then-not-has_scalar-clause-findings : goal.returns-then-not-has_scalar-clause-findings
returns-then-not-has_scalar-clause-findings c es H = no_scalar es (sym (scalar_is H) ∙ sym c.has_scalar.ensures ∙ c.if-not-has_scalar.true)

has_scalar_line : (c : Else-not-has_scalar) (es : List Entry) → Lines (goal.at.Else-not-has_scalar c).Start es → has_line es Gen 0 scalar_class ≡ true
has_scalar_line c es H = sym (scalar_is H) ∙ sym c.has_scalar.ensures ∙ c.if-not-has_scalar.false

pub returns-in_default-clause-findings : goal.returns-in_default-clause-findings
returns-in_default-clause-findings c es H =
    let not_has_scalar = (goal.at.returns-in_default-clause-findings c).Else-not-has_scalar in
    credit_above_lem es (has_scalar_line not_has_scalar es H) (sym (c.in_default.ensures.rule_16 es H))

pub returns-clause-findings : goal.returns-clause-findings
returns-clause-findings c es H =
    let not_has_scalar = (goal.at.returns-clause-findings c).Else-not-has_scalar in
    let some = c.in-Some.ensures in
    c.totals_of.ensures.findings es (rw some.ledger H) ∙ credits_pass es (has_scalar_line not_has_scalar es H) (sym (some.rule_16 es H))
