-- A word that passes the tests is spaces and a number, and one that a test turns away holds none. Assumes nothing.
use Rattle.basics.proofs.Common.{ℕ, ◌-◌, bit_and, arith}
use lib.Bits.{and_le_l}
use Rattle.line_fields.proofs.Bytes.{lanes}
use Rattle.line_fields.proofs.Bits.{runs, lower_halves, digits_within}
use Rattle.line_fields.proofs.Fields.{holds}
use Rattle.line_fields.proofs.digits_in.Goals as goal

pub returns : goal.returns
unfolding lanes
returns c =
    let x : ℕ = c.args.w - lanes 32 14 in
    let d : ℕ = bit_and x (lanes 16 16) in
    let r = runs 16 x c.if-marks-behind.false in
    let e = r.marks in
    let l = and_le_l x (lanes 16 16) in
    let h = lower_halves 16 (x - d) (omega arith) c.if-y-ne0.false in
    let a = digits_within 16 (x - d) (omega arith) h c.if-y-ne0-2.false in
    (a, holds c.args.w r.k (x - d) (omega arith) r.within (omega (arith, e, l)) (omega (arith, e)) (omega (arith, e)) a)
