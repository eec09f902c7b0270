-- A rest leaves its leading zeros free, or fewer where fewer digits are left. Assumes nothing.
use Rattle.basics.proofs.Common.{arith, count_leading_zeros}
use Rattle.division.proofs.Quotients.{Width, width_of, fewer}
use Rattle.division.proofs.step_width.Goals as goal

pub returns : goal.returns
returns c =
    let a = c.args in
    let x = c.max.result in
    let e = c.max.ensures in
    let f = c.min.ensures in
    let free : Width a.rest (count_leading_zeros 64 x) = width_of a.rest x (omega (arith, e)) (omega (arith, e)) (omega (arith, e, c.requires.0)) in
    let w : Width a.rest c.min.result = fewer _ _ _ free (omega (arith, f, free.some)) (omega (arith, f)) in
    (w.some, omega (arith, f), w.below, w.fits)
