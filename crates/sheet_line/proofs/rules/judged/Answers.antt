-- The class was tested by rule 6, so that it alone tells whether the line has one amount; each other rule passes by its own test. Assumes nothing.
use Rattle.basics.proofs.Common.{◌≡◌, false, rules, pick}
use Rattle.sheet_line.specs.Rules.{class_outside, rule5, rule6, rule8, rule9, rule10}
use Rattle.sheet_line.proofs.Acceptance.{single_within}
use Rattle.sheet_line.proofs.rules.judged.Goals as goal

pub returns : goal.returns
unfolding rule5 rule6 rule8 rule9 rule10 pick
returns c =
    let r6 : class_outside c.args.e ≡ false = search rules in
    rw (single_within c.args.e r6) (search rules)
