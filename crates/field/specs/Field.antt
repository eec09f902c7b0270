-- A number field: a decimal number in columns, read and written, one definition for every width. Document 01, the sheet
-- and the report: 'Numbers are decimal, right-justified, spaces before, at least one digit, no leading zero except 0
-- itself.' Bytes are numbers: a space is 32, the digits are 48 to 57. Assumes nothing.
use Rattle.std.specs.Prelude.{Option, Some, None, ℕ, zero, suc, ◌+◌, ◌-◌, ◌*◌, ◌/◌, ◌%◌, List, [], ◌∷◌, ◌++◌, ltb, eqb}
use Rattle.basics.specs.Pick.{pick}

-- the number that decimal digits spell after v; none where another byte stands among them
unfoldable pub digits : ℕ → List ℕ → Option ℕ
digits v [] = Some v
digits v (b ∷ bs) = pick (ltb b 48) None (pick (ltb 57 b) None (digits (10 * v + (b - 48)) bs))

-- what a leading zero is: 0 itself where nothing follows it
abbrev pub zero_only : List ℕ → Option ℕ
zero_only [] = Some 0
zero_only (b ∷ bs) = None

-- the number in a field: spaces, then digits to its end
unfoldable pub field : List ℕ → Option ℕ
field [] = None
field (b ∷ bs) = pick (eqb b 32) (field bs) (pick (eqb b 48) (zero_only bs) (digits 0 (b ∷ bs)))

-- the last digit of what is left of a number; a space where nothing is left
unfoldable pub digit_or_space : ℕ → ℕ
digit_or_space v = pick (eqb v 0) 32 (48 + v % 10)

-- what is left of a number, in the w columns before digits that are written already
unfoldable pub leading_digits : ℕ → ℕ → List ℕ
leading_digits zero v = []
leading_digits (suc w) v = leading_digits w (v / 10) ++ (digit_or_space v ∷ [])

-- a number right-justified in w columns: its last digit, and before it what is left. A number of more than w digits
-- shows its last w.
unfoldable pub decimal : ℕ → ℕ → List ℕ
decimal zero v = []
decimal (suc w) v = leading_digits w (v / 10) ++ ((48 + v % 10) ∷ [])
