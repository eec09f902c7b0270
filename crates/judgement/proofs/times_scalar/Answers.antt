-- The bracket split by 10,000 gives the same quotient. Assumes nothing.
use Rattle.basics.proofs.Common.{◌≡◌, ◌+◌, ◌*◌, ◌/◌, ◌%◌, arith}
use Rattle.sizes.specs.Sizes.{ten_thousandths}
use Rattle.guideline.proofs.Totals.{buffer_split}
use Rattle.judgement.proofs.times_scalar.Goals as goal

pub returns : goal.returns
returns c =
    let x = c.args.g * (c.args.bracket % ten_thousandths) in
    let e : c.div_ceil.result ≡ (x + 9999) / ten_thousandths = omega (arith, c.div_ceil.ensures) in
    rw e (buffer_split _ _ c.requires.0 c.requires.1)
