-- Columns 1 to 9 of a line. Document 01: a line of a sheet has its 'code in columns 1–3, block in 5–6, class in 8–9, .. spaces between', one of a report
-- 'code 1–3, block 5–6, item 8–9'; document 02, #113: a listing has 'code, block and class in the sheet's columns'. A space is 32. Assumes nothing.
use Rattle.std.specs.Prelude.{List, ◌∷◌, ◌++◌, ℕ, ◌+◌, ◌-◌, take, drop}
use Rattle.field.specs.Field.{decimal}

-- columns a to z of a line; they count from 1
abbrev pub columns : ℕ → ℕ → List ℕ → List ℕ
columns a z s = take (z + 1 - a) (drop (a - 1) s)

-- those of the code
abbrev pub code_columns : List ℕ → List ℕ
code_columns s = columns 1 3 s

-- those of the block
abbrev pub block_columns : List ℕ → List ℕ
block_columns s = columns 5 6 s

-- those of the class or item
abbrev pub class_columns : List ℕ → List ℕ
class_columns s = columns 8 9 s

-- how many columns these are, with the spaces
abbrev pub key_bytes : ℕ
key_bytes = 9

-- code, block, and class or item
unfoldable pub key : List ℕ → ℕ → ℕ → List ℕ
key code block class = code ++ (32 ∷ decimal 2 block) ++ (32 ∷ decimal 2 class)
