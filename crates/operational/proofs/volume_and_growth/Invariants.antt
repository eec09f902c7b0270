use Rattle.basics.proofs.Common.{◌≡◌}
use Rattle.guideline.specs.Operational.{charged}
use Rattle.operational.proofs.volume_and_growth.Given as goal

abbrev pub invariant-loop-k : goal.invariant-loop-k
invariant-loop-k l = l.sum ≡ charged l.volumes l.k
