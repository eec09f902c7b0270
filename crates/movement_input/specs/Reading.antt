-- The input of the movement call, document 02, #111: 'reads 18 lines, each an amount in 14 columns and a line feed, the block call's 17 numbers and
-- then t'. Bytes are numbers: a line feed is 10. Assumes nothing.
use Rattle.std.specs.Prelude.{Option, Some, None, Bool, true, false, List, [], ◌∷◌, ◌++◌, ℕ, zero, suc, ◌+◌, ◌*◌, eqb, get_or, take, drop}
use Rattle.basics.specs.Pick.{pick}
use Rattle.basics.specs.First.{first}
use Rattle.sizes.specs.Sizes.{block_numbers}
use Rattle.field.specs.Field.{field}
use Rattle.line_fields.specs.Words.{amount_columns}

-- 'an amount in 14 columns and a line feed'
abbrev pub input_line_bytes : ℕ
input_line_bytes = amount_columns + 1

-- 'the block call's 17 numbers and then t'
abbrev pub input_lines : ℕ
input_lines = block_numbers + 1

-- 270 bytes
abbrev pub input_bytes : ℕ
input_bytes = input_line_bytes * input_lines

-- ---- a line

-- what a line of 15 bytes holds: none where it is broken
unfoldable pub amount_of : List ℕ → Option ℕ
amount_of l = pick (eqb (get_or l amount_columns 0) 10) (field (take amount_columns l)) None

-- what the line behind i others holds
abbrev pub amount_at : List ℕ → ℕ → Option ℕ
amount_at s i = amount_of (take input_line_bytes (drop (input_line_bytes * i) s))

-- whether a line is broken
abbrev pub is_bad : Option ℕ → Bool
is_bad None = true
is_bad (Some n) = false

-- how many lines stand before the first that is broken; all of them where none is
unfoldable pub lines_kept : List ℕ → ℕ
lines_kept s = first (λ i. is_bad (amount_at s i)) input_lines

-- ---- the numbers

-- the number that a line holds; 0 where it is broken
abbrev pub number_in : Option ℕ → ℕ
number_in (Some n) = n
number_in None = 0

-- the number of the line behind i others
abbrev pub number_at : List ℕ → ℕ → ℕ
number_at s i = number_in (amount_at s i)

-- the numbers of the first n lines
unfoldable pub numbers_to : List ℕ → ℕ → List ℕ
numbers_to s zero = []
numbers_to s (suc n) = numbers_to s n ++ (number_at s n ∷ [])

-- 'the block call's 17 numbers'
abbrev pub block_of : List ℕ → List ℕ
block_of s = numbers_to s block_numbers

-- 'and then t'
abbrev pub raise_of : List ℕ → ℕ
raise_of s = number_at s block_numbers
