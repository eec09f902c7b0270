-- A quotient by 100, rounded up. Assumes nothing.
use Rattle.basics.proofs.Common.{◌≡◌, ◌+◌, ◌-◌, ◌/◌, ◌∙◌, arith}
use Rattle.sizes.specs.Sizes.{fineness}
use Rattle.figures.proofs.JointRadicand.{reported_is}
use Rattle.figures.proofs.in_half_cents.Goals as goal

pub returns : goal.returns
returns c =
    let x = c.args.x in
    let e : c.div_ceil.result ≡ (x + (fineness - 1)) / fineness = omega (arith, c.div_ceil.ensures) in
    e ∙ reported_is x c.requires
