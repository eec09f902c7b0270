use Rattle.basics.proofs.Common.{◌≡◌, ◌+◌, sum_to, Listed}
use Rattle.sizes.specs.Sizes.{parts}
use Rattle.apportion.specs.Shares.{value_of_part, base, remainder}
use Rattle.apportion.specs.Steps.{quotients, rests}
use Rattle.apportion.proofs.divided.Given as goal

abbrev pub invariant-loop-part : goal.invariant-loop-part
invariant-loop-part l =
    Listed (base l.k (value_of_part l.margins)) parts (quotients l.shares) l.part
    × Listed (remainder l.k (value_of_part l.margins)) parts (rests l.shares) l.part
    × (l.left + sum_to (base l.k (value_of_part l.margins)) l.part ≡ l.k)
