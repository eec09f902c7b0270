-- Digits in all bytes are digits in the upper eight and in the lower eight, and their number is that of both. Assumes nothing.
use Rattle.basics.proofs.Common.{◌≡◌, ℕ, ◌+◌, ◌*◌, ◌/◌, ◌%◌, ◌^◌, ◌<◌, ap, ◌∙◌, div-add-mod', arith}
use Rattle.line_fields.specs.Words.{AllDigits, number}
use Rattle.line_fields.proofs.Bytes.{within_parts, number_parts}
use Rattle.line_fields.proofs.number_of.Goals as goal

module _ (y : ℕ) (h : y < 2 ^ 128) where
  abbrev upper : ℕ
  upper = y / 256 ^ 8

  abbrev lower : ℕ
  lower = y % 256 ^ 8

  parts : AllDigits 16 y → AllDigits 8 upper × AllDigits 8 lower
  parts w = within_parts 8 lower (omega arith) 9 8 upper (omega arith) (rw (div-add-mod' y (256 ^ 8)) w)

  whole : 100000000 * number 8 upper + number 8 lower ≡ number 16 y
  whole =
      omega (arith, number_parts 8 lower (omega arith) 8 upper (omega arith)) ∙ ap (number 16) (div-add-mod' y (256 ^ 8))

pub number_of_eight-requires : goal.number_of_eight-requires
number_of_eight-requires c = (parts c.args.y (omega arith) c.requires).0

pub number_of_eight-requires-2 : goal.number_of_eight-requires-2
number_of_eight-requires-2 c = (parts c.args.y (omega arith) c.requires).1

pub returns : goal.returns
returns c = omega (arith, whole c.args.y (omega arith), c.number_of_eight.ensures.value, c.number_of_eight-2.ensures.value)
