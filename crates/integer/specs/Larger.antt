-- The larger of two whole numbers, negative ones too. Assumes nothing.
use Rattle.std.specs.Prelude.{ℤ}
use Rattle.std.specs.Int.Signed.{le_z}
use Rattle.basics.specs.Pick.{pick}

-- the larger of x and y
abbrev pub larger : ℤ → ℤ → ℤ
larger x y = pick (le_z x y) y x
