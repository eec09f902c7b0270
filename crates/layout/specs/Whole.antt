-- The whole lines of a sheet tested for rule 3, 'columns 4–40 break the layout'. Document 02, #108: 'the whole lines are tested for rule 3 first.
-- It gives 3 with the first bad whole line'. Assumes nothing.
use Rattle.std.specs.Prelude.{Option, Some, None, Bool, true, false, List, ℕ, ◌*◌, ◌/◌, length, take, drop}
use Rattle.basics.specs.First.{first}
use Rattle.layout.specs.Columns.{sheet_line_bytes, layout_of}
use Rattle.layout.specs.declared.Numbers.{Numbers}

-- how many whole lines a sheet has
abbrev pub whole_lines : List ℕ → ℕ
whole_lines s = length s / sheet_line_bytes

-- a whole line of a sheet, by how many stand before it
abbrev pub line_at : List ℕ → ℕ → List ℕ
line_at s i = take sheet_line_bytes (drop (sheet_line_bytes * i) s)

-- whether a layout is broken
abbrev pub is_broken : Option Numbers → Bool
is_broken None = true
is_broken (Some n) = false

-- whether the line behind i others breaks the layout
abbrev pub breaks_at : List ℕ → ℕ → Bool
breaks_at s i = is_broken (layout_of (line_at s i))

-- how many whole lines stand before the first that breaks the layout; all of them where none does
unfoldable pub lines_kept : List ℕ → ℕ
lines_kept s = first (breaks_at s) (whole_lines s)
