-- A line of a sheet of either sort as the other sort has it (document 02, #110). Assumes nothing.
use Rattle.std.specs.Prelude.{List, ℕ}
use Rattle.sheet_line.specs.declared.Entry.{Entry}
use Rattle.scaled_line.specs.Scale.{other, print_in}
use Rattle.scaled_line.specs.Amounts.{rescaled}
use Rattle.scaled_line.specs.declared.Scale.{Scale}

-- the line of an entry as the other sort of sheet has it, where rules 20 and 21 let it pass
abbrev pub other_line : Scale → Entry → List ℕ
other_line d e = print_in (other d) (rescaled d e)
