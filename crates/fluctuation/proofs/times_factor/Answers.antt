-- The sum of the two parts in twentieths is at most 20 × B, so it fits a word; a twentieth of it, rounded up, is the least that reaches. Assumes
-- nothing.
use Rattle.basics.proofs.Common.{arith}
use Rattle.fluctuation.proofs.LeastCents.{rounded_up}
use Rattle.fluctuation.proofs.times_factor.Goals as goal

pub returns : goal.returns
returns c = rounded_up _ _ _ _ c.requires _ c.over_root-over.ensures _ (omega (arith, c.div_ceil.ensures)) (omega (arith, c.div_ceil.ensures))
