-- The line of an entry: its code's letters in columns 1 to 3, and its numbers in their columns. Assumes nothing.
use Rattle.std.specs.Prelude.{ℕ, List}
use Rattle.codes.specs.Codes.{letters_of}
use Rattle.layout.specs.Columns.{lettered}
use Rattle.layout.specs.declared.Numbers.{Numbers}
use Rattle.sheet_line.specs.declared.Entry.{Entry}

-- the four numbers of an entry
abbrev pub numbers_of : Entry → Numbers
numbers_of e = record { block = e.block; class = e.class; first = e.first; second = e.second }

-- the line of an entry
abbrev pub print_line : Entry → List ℕ
print_line e = lettered (letters_of e.code) (numbers_of e)
