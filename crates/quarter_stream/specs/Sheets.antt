-- The sheets of an input. Document 02, #114: 'each closed by a line of 39 minus signs and a line feed, which counts at the start of the input or
-- right after a line feed'. Bytes are numbers: a minus sign is 45, a line feed 10. Assumes nothing.
use Rattle.std.specs.Prelude.{ℕ, zero, suc, ◌+◌, List, [], ◌∷◌, ◌++◌, Bool, true, false, ltb, eqb, length, get_or, take, drop, replicate}
use Rattle.basics.specs.First.{first}
use Rattle.basics.specs.Pick.{pick}

-- the minus signs of a closing line
abbrev pub closing_minuses : ℕ
closing_minuses = 39

-- 'a line of 39 minus signs and a line feed'
abbrev pub closing : List ℕ
closing = replicate closing_minuses 45 ++ (10 ∷ [])

-- its bytes
abbrev pub closing_bytes : ℕ
closing_bytes = closing_minuses + 1

-- s begins with the bytes w
unfoldable pub starts : List ℕ → List ℕ → Bool
starts [] s = true
starts (x ∷ w) [] = false
starts (x ∷ w) (b ∷ s) = pick (eqb b x) (starts w s) false

-- 'at the start of the input or right after a line feed'
unfoldable pub line_start : List ℕ → ℕ → Bool
line_start s zero = true
line_start s (suc k) = eqb (get_or s k 0) 10

-- a closing line stands at place k of s, and counts
unfoldable pub closes_at : List ℕ → ℕ → Bool
closes_at s k = pick (line_start s k) (starts closing (drop k s)) false

-- the bytes of each closed sheet, without its closing line, and those after the last closing line
pub record Sheets : Type 0 where
  pub closed : List (List ℕ)
  pub rest : List ℕ

-- a sheet more, before the others
abbrev pub and_then : List ℕ → Sheets → Sheets
and_then x s = record { closed = x ∷ s.closed; rest = s.rest }

-- the first sheet ends where the first closing line begins; the others are those of the bytes after that line, of which there are n at most
unfoldable pub sheets_in : ℕ → List ℕ → Sheets
sheets_in zero s = record { closed = []; rest = s }
sheets_in (suc n) s =
    let k = first (closes_at s) (length s) in
    pick (ltb k (length s)) (and_then (take k s) (sheets_in n (drop closing_bytes (drop k s)))) (record { closed = []; rest = s })

abbrev pub sheets_of : List ℕ → Sheets
sheets_of s = sheets_in (length s) s

abbrev pub one : List ℕ → ℕ
one [] = 0
one (b ∷ s) = 1

-- how many sheets there are, the one that is not closed too: bytes after the last closing line are one
unfoldable pub count : Sheets → ℕ
count s = length s.closed + one s.rest
