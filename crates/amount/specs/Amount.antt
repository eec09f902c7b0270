-- Amounts and rule 7, 'a call's amount above the limit'. Assumes nothing.
use Rattle.std.specs.Prelude.{Bool, List, ℕ, ltb, length, get_or}
use Rattle.basics.specs.First.{first}

-- 'All amounts are whole cents, 0 to 99,999,999,999,999'
abbrev pub limit : ℕ
limit = 99999999999999

-- the amount at position k is above the limit
abbrev pub above : List ℕ → ℕ → Bool
above l k = ltb limit (get_or l k 0)

-- the position, from 0, of the first amount above the limit; the number of amounts where there is none
unfoldable pub first_above : List ℕ → ℕ
first_above l = first (above l) (length l)
