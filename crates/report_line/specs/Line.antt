-- The lines of a report, written and read back. Document 01, the sheet and the report: 'A report line has 29 bytes: code
-- 1–3, block 5–6, item 8–9, number in 11–28, all three right-justified, spaces between, line feed last.' Document 02, #114, has 'report lines of 30
-- bytes, the number .. in 11–29': one definition over the columns of the number, of which document 01's is the one with 18.
-- Assumes nothing.
use Rattle.std.specs.Prelude.{Option, None, ℕ, zero, suc, ◌+◌, ◌/◌, Bool, true, false, List, [], ◌∷◌, ◌++◌, eqb, length, take, drop}
use Rattle.basics.specs.Pick.{pick}
use Rattle.sizes.specs.Sizes.{number_columns}
use Rattle.field.specs.Field.{field, decimal}
use Rattle.key_columns.specs.Key.{key_bytes, key}
use Rattle.report_line.specs.declared.Row.{Row}

-- how many columns stand before the number: 1–9 and a space
abbrev pub before_number : ℕ
before_number = key_bytes + 1

-- the bytes of a line whose number has w columns, the line feed after it
abbrev pub line_bytes : ℕ → ℕ
line_bytes w = before_number + w + 1

-- 'A report line has 29 bytes'
abbrev pub report_line_bytes : ℕ
report_line_bytes = 29

-- a line whose number has w columns
unfoldable pub line_in : ℕ → List ℕ → ℕ → ℕ → ℕ → List ℕ
line_in w code block item number = key code block item ++ (32 ∷ []) ++ decimal w number ++ (10 ∷ [])

-- a report line
abbrev pub report_line : List ℕ → ℕ → ℕ → ℕ → List ℕ
report_line code block item number = line_in number_columns code block item number

-- the bytes of what a line says, where its number has w columns
abbrev pub row_in : ℕ → Row → List ℕ
row_in w r = line_in w r.code r.block r.item r.number

-- a line for each row
unfoldable pub rows_in : ℕ → List Row → List ℕ
rows_in w [] = []
rows_in w (r ∷ rs) = row_in w r ++ rows_in w rs

-- the bytes of a report: a line for each row
abbrev pub print_rows : List Row → List ℕ
print_rows rs = rows_in number_columns rs

-- the two lists are byte for byte the same
unfoldable pub equal_bytes : List ℕ → List ℕ → Bool
equal_bytes [] [] = true
equal_bytes [] (b ∷ t) = false
equal_bytes (a ∷ s) [] = false
equal_bytes (a ∷ s) (b ∷ t) = pick (eqb a b) (equal_bytes s t) false

-- the number in the w columns from 11 on of the first of n lines whose columns 1–9 are k; none where there is none
unfoldable pub found_in : ℕ → ℕ → List ℕ → List ℕ → Option ℕ
found_in w zero report k = None
found_in w (suc n) report k = pick (equal_bytes (take key_bytes report) k) (field (take w (drop before_number report))) (found_in w n (drop (line_bytes w) report) k)

-- the number that lines give for a code, a block and an item
unfoldable pub found_at : ℕ → List ℕ → List ℕ → ℕ → ℕ → Option ℕ
found_at w report code block item = found_in w (length report / line_bytes w) report (key code block item)

-- the number that a report gives for a code, a block and an item
abbrev pub number_at : List ℕ → List ℕ → ℕ → ℕ → Option ℕ
number_at report code block item = found_at number_columns report code block item
