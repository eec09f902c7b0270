use Rattle.basics.proofs.Common.{◌≡◌, count_to}
use Rattle.apportion.specs.Shares.{value_of_part, before}
use Rattle.apportion.specs.Steps.{rests}
use Rattle.apportion.proofs.rank_of.Given as goal

abbrev pub invariant-loop-other : goal.invariant-loop-other
invariant-loop-other l = l.before ≡ count_to (λ q. before (value_of_part (rests l.divided)) q l.part) l.other
