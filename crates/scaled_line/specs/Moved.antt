-- A line as the other sort of sheet has it, by its columns (document 02, #110): 'The scalar's line keeps its number; every other amount is multiplied
-- or divided by 100,000'. A thousand dollars are 100,000 cents, so that an amount in cents is one in thousands with five zeros behind it, and its
-- digits stand five columns further left. That the line of an entry becomes so the line of that entry in the other sort is proved (`line_moved` in
-- proofs/MovedLines). Bytes are numbers: a space is 32, 0 is 48, G is 71, g is 103. Assumes nothing.
use Rattle.std.specs.Prelude.{ℕ, ◌+◌, ◌-◌, List, ◌++◌, map, Bool, true, false, eqb, get_or, take, drop, replicate, bit_xor}
use Rattle.basics.specs.Pick.{pick}
use Rattle.line_fields.specs.Words.{amount_columns}
use Rattle.key_columns.specs.Key.{columns, code_columns, class_columns}
use Rattle.codes.specs.Codes.{scalar_class}
use Rattle.layout.specs.Columns.{byte_at, first_columns, second_columns}
use Rattle.scaled_line.specs.declared.Scale.{Scale}
use Rattle.scaled_line.specs.declared.Scale.TheVariants.{Cents, Thousands}

-- a letter in the other sort: a capital and its small letter differ in one bit, 32. Any other byte changes in that bit too
abbrev pub other_case : ℕ → ℕ
other_case b = bit_xor b 32

-- the zeros that 100,000 has behind its 1
abbrev pub zeros : ℕ
zeros = 5

-- two columns show the class of the scalar: a space and its digit
abbrev pub shows_scalar_class : List ℕ → Bool
shows_scalar_class l = pick (eqb (get_or l 0 0) 32) (eqb (get_or l 1 0) (48 + scalar_class)) false

-- the scalar's line, which keeps its number: its first letter is G or g, as that of GEN alone is, and its columns of the class show the scalar's
unfoldable pub keeps_amounts : List ℕ → Bool
keeps_amounts s =
    pick (pick (eqb (byte_at 1 s) 71) true (eqb (byte_at 1 s) 103)) (shows_scalar_class (class_columns s)) false

-- the columns of an amount hold 0, which is 0 in both sorts: a space and 0 stand last
unfoldable pub holds_zero : List ℕ → Bool
holds_zero l = pick (eqb (get_or l 12 0) 32) (eqb (get_or l 13 0) 48) false

-- the columns of another amount, moved: cents to the right, where their zeros drop out; thousands to the left, with zeros behind
abbrev pub shifted : Scale → List ℕ → List ℕ
shifted Cents l = replicate zeros 32 ++ take (amount_columns - zeros) l
shifted Thousands l = drop zeros l ++ replicate zeros 48

-- the columns of an amount in the other sort, of a line that keeps its amounts or of another
unfoldable pub moved_amount : Scale → Bool → List ℕ → List ℕ
moved_amount d kept l = pick kept l (pick (holds_zero l) l (shifted d l))

-- a line in the other sort, whichever bytes it has: other letters, the amounts moved, every other column as it was
unfoldable pub moved_line : Scale → List ℕ → List ℕ
moved_line d s =
    map other_case (code_columns s) ++ columns 4 10 s ++ moved_amount d (keeps_amounts s) (first_columns s)
    ++ columns 25 25 s ++ moved_amount d (keeps_amounts s) (second_columns s) ++ columns 40 40 s
