-- The lines of a sheet read one after the other, each completely: 'the first bad line, in it 3, 4, 5, 6, 8, 9, 10, 11', and 19 after 11 (document
-- 02, #105). Lines count from 1. A sheet has as many lines as a line's bytes go into its length; rules 1 and 2 are not tested here. Assumes
-- nothing.
use Rattle.std.specs.Prelude.{Result, Ok, Err, ℕ, zero, suc, ◌+◌, Bool, List, [], ◌∷◌, ◌++◌, length, take, drop}
use Rattle.refusal.specs.Outcome.{Outcome, rule_number}
use Rattle.refusal.specs.Outcome.Outcome.{accepted, refused}
use Rattle.refusal.specs.declared.Place.TheVariants as place
use Rattle.layout.specs.Columns.{sheet_line_bytes}
use Rattle.layout.specs.Whole.{whole_lines}
use Rattle.sheet_line.specs.Line.{print_line}
use Rattle.sheet_line.specs.Rules.{parse_line}
use Rattle.refusal.specs.declared.Rule.{Rule}
use Rattle.sheet_line.specs.declared.Entry.{Entry}
use Rattle.places.specs.Entries.{has_line}
use Rattle.order.specs.Order.{last_key, admitted}

-- what reading gives, the entries with the last line first
pub data Reading : Type 0 where
  -- all lines are good
  complete : List Entry → Reading
  -- the entries before the first bad line, the number of the rule that turns it away, and that of the line
  stopped : List Entry → ℕ → ℕ → Reading

-- whether one of the lines seen has an entry's code, block and class
abbrev pub stood_in : List Entry → Entry → Bool
stood_in seen e = has_line seen e.code e.block e.class

-- a line after the lines seen
abbrev pub line_after : List Entry → Result Entry Rule → Result Entry Rule
line_after seen l = admitted (stood_in seen) (last_key seen) l

-- line number i after the lines seen
unfoldable pub on_line : Result Entry Rule → ℕ → List Entry → (List Entry → Reading) → Reading
on_line (Err r) i seen next = stopped seen (rule_number r) i
on_line (Ok e) i seen next = next (e ∷ seen)

-- n lines from line number i on: a line is parsed, comes after the lines seen, and then passes a last test
unfoldable pub read_from : (List ℕ → Result Entry Rule) → (Result Entry Rule → Result Entry Rule) → ℕ → ℕ → List ℕ → List Entry → Reading
read_from parse test zero i s seen = complete seen
read_from parse test (suc n) i s seen =
    on_line (test (line_after seen (parse (take sheet_line_bytes s)))) i seen (λ t. read_from parse test n (i + 1) (drop sheet_line_bytes s) t)

-- all lines of a sheet, by how a line is parsed and by the last test
abbrev pub reading_by : (List ℕ → Result Entry Rule) → (Result Entry Rule → Result Entry Rule) → List ℕ → Reading
reading_by parse test s = read_from parse test (whole_lines s) 1 s []

-- no test after 19
abbrev pub untested : Result Entry Rule → Result Entry Rule
untested l = l

-- all lines of a sheet
abbrev pub reading : List ℕ → Reading
reading s = reading_by parse_line untested s

-- the bytes of lines, the last line first in the list, by how an entry is printed
unfoldable pub print_by : (Entry → List ℕ) → List Entry → List ℕ
print_by print [] = []
print_by print (e ∷ es) = print_by print es ++ print e

-- the bytes of a sheet's lines
abbrev pub print_lines : List Entry → List ℕ
print_lines es = print_by print_line es

-- the good lines before the first bad one
abbrev pub entries_of : Reading → List Entry
entries_of (complete es) = es
entries_of (stopped es r i) = es

-- the outcome: how many lines there are, or the rule with its line
abbrev pub outcome_of : Reading → Outcome
outcome_of (complete es) = accepted (length es ∷ [])
outcome_of (stopped es r i) = refused r (place.Line i)
