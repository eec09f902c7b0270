-- Where the test finds no credit above its block's LT(1), all are covered. Assumes nothing.
use Rattle.basics.proofs.Common.{sym, ◌∙◌}
use Rattle.credits.proofs.Acceptance.{all_covered}
use Rattle.credits.proofs.credited.Goals as goal

pub invariant_of-result-clause-covered : goal.invariant_of-result-clause-covered
invariant_of-result-clause-covered c es H = all_covered es H.lines (sym (c.any_credit_above.ensures es H) ∙ c.if-any_credit_above.false)
