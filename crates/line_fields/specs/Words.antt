-- The columns of an amount; and columns as words, which serve private contracts alone: bytes are digits in base 256, the first column's the highest.
-- Bytes are numbers: a space is 32, the digits are 48 to 57. Assumes nothing.
use Rattle.std.specs.Prelude.{◌≡◌, Some, None, List, [], ◌∷◌, ℕ, zero, suc, ◌+◌, ◌*◌, ◌/◌, ◌%◌, ◌^◌, ◌≤◌, ◌<◌, ⊤, length, get_or}
use Rattle.field.specs.Field.{field}

-- the columns of an amount: 'first amount in 11–24, second in 26–39'
abbrev pub amount_columns : ℕ
amount_columns = 14

-- columns as a word
unfoldable pub word : List ℕ → ℕ
word [] = 0
word (b ∷ bs) = b * 256 ^ length bs + word bs

-- all elements of a list are bytes
abbrev pub Bytes : List ℕ → Type 0
Bytes l = (i : ℕ) → get_or l i 0 < 256

-- none of the n bytes of y is above b
unfoldable pub Within : ℕ → ℕ → ℕ → Type 0
Within b zero y = ⊤
Within b (suc n) y = (y / 256 ^ n ≤ b) × Within b n (y % 256 ^ n)

-- each of the n bytes of y is one of the numbers 0 to 9
abbrev pub AllDigits : ℕ → ℕ → Type 0
AllDigits n y = Within 9 n y

-- the number whose decimal digits the n bytes of y are
unfoldable pub number : ℕ → ℕ → ℕ
number zero y = 0
number (suc n) y = y / 256 ^ n * 10 ^ n + number n (y % 256 ^ n)

-- an amount's columns that are this word hold the number v
abbrev pub Holds : ℕ → ℕ → Type 0
Holds w v = (s : List ℕ) → length s ≡ amount_columns → Bytes s → word s ≡ w → field s ≡ Some v

-- .. hold none
abbrev pub HoldsNone : ℕ → Type 0
HoldsNone w = (s : List ℕ) → length s ≡ amount_columns → word s ≡ w → field s ≡ None
