-- Whenever the loop's test is reached, the first i territories are charged. Assumes nothing.
use Rattle.basics.proofs.Common.{◌≡◌, sym, arith}
use Rattle.sizes.specs.Sizes.{territories}
use Rattle.guideline.proofs.Charges.{charged_none}
use Rattle.ledger.specs.Numbers.{volumes_of}
use Rattle.judgement.proofs.volume_and_growth.Goals as goal

pub loop-i-init : goal.loop-i-init
loop-i-init c es H = sym (charged_none (volumes_of es))

pub returns : goal.returns
returns c es H =
    let e : c.loop-i.i ≡ territories = omega (arith, c.loop-i.auto.i-end, c.loop-i-test.false) in
    rw e at (c.loop-i.invariant es H)
