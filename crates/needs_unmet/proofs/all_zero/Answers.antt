-- The tests go as the definition's do. Assumes nothing.
use Rattle.basics.proofs.Branches.{tests}
use Rattle.needs.specs.Needs.{all_zero}
use Rattle.needs_unmet.proofs.all_zero.Goals as goal

pub returns-then-first-eq0 : goal.returns-then-first-eq0
unfolding all_zero
returns-then-first-eq0 c = search tests

pub returns-else-first-eq0 : goal.returns-else-first-eq0
unfolding all_zero
returns-else-first-eq0 c = search tests
