-- Whenever the loop's test is reached, the numbers of the first i lines stand in front. Assumes nothing.
use Rattle.basics.proofs.Common.{refl, nothing}
use Rattle.movement_input.specs.Reading.{numbers_to}
use Rattle.movement_input.proofs.Numbers.{next_number}
use Rattle.movement_input.proofs.block_of.Goals as goal

pub loop-i-init : goal.loop-i-init
unfolding numbers_to
loop-i-init c = (refl, nothing _)

pub loop-i-preserved : goal.loop-i-preserved
loop-i-preserved c = next_number _ c.loop-i.invariant c.loop-i-test.true c.number_at.ensures
