-- The layout of a sheet's line: 'A line has 40 bytes: code in columns 1–3, block in 5–6, class in 8–9, first amount in 11–24, second in
-- 26–39, a line feed last, spaces between.' How columns 4 to 40 are read, and how they are printed behind three letters. Bytes are numbers:
-- a space is 32, a line feed 10. Assumes nothing.
use Rattle.std.specs.Prelude.{Option, Some, None, ℕ, ◌-◌, List, [], ◌∷◌, ◌++◌, Bool, false, eqb, get_or}
use Rattle.basics.specs.Pick.{pick}
use Rattle.field.specs.Field.{field, decimal}
use Rattle.key_columns.specs.Key.{columns, block_columns, class_columns, key}
use Rattle.line_fields.specs.Words.{amount_columns}
use Rattle.layout.specs.declared.Numbers.{Numbers}

-- the bytes of a line, its line feed with them
abbrev pub sheet_line_bytes : ℕ
sheet_line_bytes = 40

-- the byte in a column of a line; columns count from 1
abbrev pub byte_at : ℕ → List ℕ → ℕ
byte_at k s = get_or s (k - 1) 0

-- the columns of the first amount
abbrev pub first_columns : List ℕ → List ℕ
first_columns s = columns 11 24 s

-- those of the second
abbrev pub second_columns : List ℕ → List ℕ
second_columns s = columns 26 39 s

-- whether these columns hold spaces, and the last one a line feed
unfoldable pub spaced : List ℕ → List ℕ → Bool
spaced [] s = eqb (byte_at sheet_line_bytes s) 10
spaced (k ∷ ks) s = pick (eqb (byte_at k s) 32) (spaced ks s) false

-- 'a line feed last, spaces between'
abbrev pub separated_of : List ℕ → Bool
separated_of s = spaced (4 ∷ 7 ∷ 10 ∷ 25 ∷ []) s

-- the numbers of the four fields, where each field holds one
abbrev pub fields_of : Option ℕ → Option ℕ → Option ℕ → Option ℕ → Option Numbers
fields_of (Some b) (Some c) (Some f) (Some g) = Some (record { block = b; class = c; first = f; second = g })
fields_of (Some b) (Some c) (Some f) None = None
fields_of (Some b) (Some c) None g = None
fields_of (Some b) None f g = None
fields_of None c f g = None

-- columns 4 to 40: the four numbers, or none where the layout is broken
unfoldable pub layout_of : List ℕ → Option Numbers
layout_of s =
    pick (separated_of s)
    (fields_of (field (block_columns s)) (field (class_columns s)) (field (first_columns s)) (field (second_columns s)))
    None

-- a line with these letters in columns 1 to 3 and four numbers
unfoldable pub lettered : List ℕ → Numbers → List ℕ
lettered w n =
    key w n.block n.class ++ (32 ∷ decimal amount_columns n.first) ++ (32 ∷ decimal amount_columns n.second) ++ (10 ∷ [])
