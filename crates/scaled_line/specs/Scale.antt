-- The two sorts of sheet: lines in cents, with the code in capital letters, and 'the same lines in thousands of dollars, with the code in small
-- letters (rsk)' (document 02, #110). There is one table of codes: a line in small letters is read with its three letters as capitals. Bytes are
-- numbers: A is 65, Z is 90, a is 97, z is 122. Assumes nothing.
use Rattle.std.specs.Prelude.{Result, ℕ, ◌+◌, ◌-◌, List, ◌++◌, map, ltb, eqb, get_or, take, drop}
use Rattle.basics.specs.Pick.{pick}
use Rattle.codes.specs.Codes.{letters_of}
use Rattle.codes.specs.declared.Code.{Code}
use Rattle.layout.specs.Columns.{lettered}
use Rattle.sheet_line.specs.Line.{numbers_of}
use Rattle.sheet_line.specs.Rules.{parse_line}
use Rattle.refusal.specs.declared.Rule.{Rule}
use Rattle.sheet_line.specs.declared.Entry.{Entry}
use Rattle.scaled_line.specs.declared.Scale.{Scale}
use Rattle.scaled_line.specs.declared.Scale.TheVariants.{Cents, Thousands}

-- the other sort
abbrev pub other : Scale → Scale
other Cents = Thousands
other Thousands = Cents

-- ---- letters

-- the capital of a small letter; 0, which no code has, for any other byte
unfoldable pub to_capital : ℕ → ℕ
to_capital b = pick (ltb b 97) 0 (pick (ltb 122 b) 0 (b - 32))

-- the small letter of a capital; 0 for any other byte
unfoldable pub to_small : ℕ → ℕ
to_small b = pick (ltb b 65) 0 (pick (ltb 90 b) 0 (b + 32))

-- a letter of a sheet of this sort as a capital
abbrev pub capital : Scale → ℕ → ℕ
capital Cents b = b
capital Thousands b = to_capital b

-- a code's letters in a sheet of this sort
abbrev pub letters_in : Scale → Code → List ℕ
letters_in Cents k = letters_of k
letters_in Thousands k = map to_small (letters_of k)

-- 'line 1's letters tell which': a small letter comes first, or any other byte. Letters of both sorts in one code are no code of either, so that the
-- first tells as much as all three
unfoldable pub scale_of : List ℕ → Scale
scale_of s = pick (eqb (to_capital (get_or s 0 0)) 0) Cents Thousands

-- ---- lines

-- a line with the three letters of its code as capitals
unfoldable pub with_capitals : List ℕ → List ℕ
with_capitals s = map to_capital (take 3 s) ++ drop 3 s

-- a line of a sheet of this sort: its entry, or the first rule that turns it away. Letters of the other sort are no code: 'Mixed
-- capital and small codes in one sheet fall under rule 4 at the first line that differs from line 1'
abbrev pub parse_in : Scale → List ℕ → Result Entry Rule
parse_in Cents s = parse_line s
parse_in Thousands s = parse_line (with_capitals s)

-- the line of an entry in a sheet of this sort
abbrev pub print_in : Scale → Entry → List ℕ
print_in d e = lettered (letters_in d e.code) (numbers_of e)
