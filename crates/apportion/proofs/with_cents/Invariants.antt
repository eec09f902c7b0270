use Rattle.basics.proofs.Common.{◌+◌, ltb, one, Listed}
use Rattle.sizes.specs.Sizes.{parts}
use Rattle.apportion.specs.Shares.{value_of_part, rank}
use Rattle.apportion.specs.Steps.{quotients, rests}
use Rattle.apportion.proofs.with_cents.Given as goal

abbrev pub invariant-loop-part : goal.invariant-loop-part
invariant-loop-part l =
    Listed (λ p. value_of_part (quotients l.divided) p + one (ltb (rank (value_of_part (rests l.divided)) parts p) l.left)) parts l.shares l.part
