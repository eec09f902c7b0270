-- The places of the tables, one for each code, block and class that a line can have. The lines of a code follow one another by block, and in a block
-- by class. Those that can have a second amount come first, so that an index of the table of first amounts serves the shorter table of second
-- amounts too. Assumes nothing.
use Rattle.std.specs.Prelude.{ℕ, ◌+◌, ◌-◌, ◌*◌, List, [], ◌∷◌, get_or, set, replicate}
use Rattle.codes.specs.Codes.{paired_lines, most_lines, row_of}
use Rattle.codes.specs.declared.Code.{Code}
use Rattle.sheet_line.specs.declared.Entry.{Entry}

-- the places of the lines that can have a second amount: 368
abbrev pub second_places : ℕ
second_places = paired_lines

-- the places of all lines that there can be: 629
abbrev pub places : ℕ
places = most_lines

-- the index of a code, block and class in the tables. Block 0, which GEN and CRD have, begins where block 1 does or would: its classes of CRD have the
-- places of the blocks without participation, which have no such line
unfoldable pub index_of : Code → ℕ → ℕ → ℕ
index_of k b c = (row_of k b).first_place + (row_of k b).block_places * (b - 1) + c - 1

-- the index of an entry
abbrev pub index_for : Entry → ℕ
index_for e = index_of e.code e.block e.class

-- the table of what f says of the entries, with n places: what stands behind them is left out
unfoldable pub table : ℕ → (Entry → ℕ) → List Entry → List ℕ
table n f [] = replicate n 0
table n f (e ∷ es) = set (table n f es) (index_for e) (f e)

-- what a table holds for a code, block and class, and 0 where it has no place for it
abbrev pub tabled : List ℕ → Code → ℕ → ℕ → ℕ
tabled l k b c = get_or l (index_of k b c) 0
