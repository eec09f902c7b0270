-- Class 0 asks for the block's RSK lines, every other class for one line. Assumes nothing.
use Rattle.basics.proofs.Common.{ℕ, ltb, sym, ap, ◌∙◌, if_eq, if_ne}
use Rattle.needs.specs.Needs.{companion_serves}
use Rattle.needs_unmet.proofs.companion_serves.Goals as goal

pub returns-then-companion-eq0 : goal.returns-then-companion-eq0
unfolding companion_serves
returns-then-companion-eq0 c = c.some_risk.ensures ∙ sym (if_eq _ c.if-companion-eq0.true)

pub returns : goal.returns
unfolding companion_serves
returns c = ap (λ (n : ℕ). ltb 0 n) c.amount_of.ensures ∙ sym (if_ne _ c.if-companion-eq0.false)
