-- What is turned away in a line: 'the first bad line, in it 3, 4, 5, 6, 8, 9, 10'; rules 11 and 19 look at more than a line and are not
-- here. Each rule has a test, true where it turns the line away, and a definition that ends in the next rule's; the last one first. Assumes
-- nothing.
use Rattle.std.specs.Prelude.{◌≡◌, Option, Some, None, Result, Ok, Err, ℕ, ◌≤◌, ◌<◌, List, Bool, true, false, not, ltb, leb, eqb}
use Rattle.basics.specs.Pick.{pick}
use Rattle.amount.specs.Amount.{limit}
use Rattle.refusal.specs.declared.Rule.{Rule}
use Rattle.refusal.specs.declared.Rule.TheVariants as rule
use Rattle.sizes.specs.Sizes.{largest_scalar}
use Rattle.codes.specs.Codes.{row_of, Key, code_of}
use Rattle.layout.specs.Columns.{layout_of}
use Rattle.codes.specs.declared.Code.{Code}
use Rattle.codes.specs.declared.CodeRow.{CodeRow}
use Rattle.layout.specs.declared.Numbers.{Numbers}
use Rattle.sheet_line.specs.declared.Entry.{Entry}

-- ---- the tests

-- whether n is outside low to high
unfoldable pub outside : ℕ → ℕ → ℕ → Bool
outside low high n = pick (ltb n low) true (ltb high n)

-- the row of an entry in the table of codes
abbrev pub row_for : Entry → CodeRow
row_for e = row_of e.code e.block

-- rule 5: 'block outside the code's range'
abbrev pub block_outside : Entry → Bool
block_outside e = outside (row_for e).lowest (row_for e).highest e.block

-- rule 6: 'class outside the code's range'
abbrev pub class_outside : Entry → Bool
class_outside e = outside 1 (row_for e).classes e.class

-- the lines that have one amount alone: all of a row without a second amount, else those of the classes behind the last that has one
abbrev pub is_single : Entry → Bool
is_single e = pick (eqb (row_for e).paired 0) true (pick (ltb (row_for e).paired e.class) (leb e.class (row_for e).classes) false)

-- rule 8: 'second amount not 0 for OTH or GEN; LT(7) not 0'
abbrev pub second_barred : Entry → Bool
second_barred e = pick (is_single e) (not (eqb e.second 0)) false

-- rule 9: 'LT above IR'
abbrev pub trend_above : Entry → Bool
trend_above e = pick (row_for e).trend (ltb e.first e.second) false

-- the line of the scalar g: a row without a scalar has no such line
abbrev pub is_scalar : Entry → Bool
is_scalar e = pick (ltb 0 (row_for e).scalar) (eqb e.class (row_for e).scalar) false

-- rule 10: 'g outside 1–20,000'
abbrev pub scalar_outside : Entry → Bool
scalar_outside e = pick (is_scalar e) (outside 1 largest_scalar e.first) false

-- ---- the rules, the last one first

-- rule 10, and where it passes too the line is good
unfoldable pub rule10 : Entry → Result Entry Rule
rule10 e = pick (scalar_outside e) (Err rule.ScalarOutside) (Ok e)

-- rule 9, then rule 10
unfoldable pub rule9 : Entry → Result Entry Rule
rule9 e = pick (trend_above e) (Err rule.TrendAboveComponent) (rule10 e)

-- rule 8, then rule 9
unfoldable pub rule8 : Entry → Result Entry Rule
rule8 e = pick (second_barred e) (Err rule.SecondAmount) (rule9 e)

-- rule 6, then rule 8
unfoldable pub rule6 : Entry → Result Entry Rule
rule6 e = pick (class_outside e) (Err rule.ClassOutside) (rule8 e)

-- rule 5, then rule 6
unfoldable pub rule5 : Entry → Result Entry Rule
rule5 e = pick (block_outside e) (Err rule.BlockOutside) (rule6 e)

-- a code with the four numbers of its line
abbrev pub entry_of : Code → Numbers → Entry
entry_of k n = record { code = k; block = n.block; class = n.class; first = n.first; second = n.second }

-- rule 4: 'code isn't one of the four', seven with MOR, ACQ and CRD; then rule 5
abbrev pub rule4 : Option Code → Numbers → Result Entry Rule
rule4 None n = Err rule.UnknownCode
rule4 (Some k) n = rule5 (entry_of k n)

-- rule 3: 'columns 4–40 break the layout', then rule 4
abbrev pub rule3 : Option Numbers → Option Code → Result Entry Rule
rule3 None c = Err rule.BrokenLayout
rule3 (Some n) c = rule4 c n

-- a line: its entry, or the first rule that turns it away
unfoldable pub parse_line : List ℕ → Result Entry Rule
parse_line s = rule3 (layout_of s) (code_of s)

-- ---- what the rules leave

-- the amounts that a row and a class let pass
pub record AcceptedAmounts (r : CodeRow) (c first second : ℕ) : Type 0 where
  pub first_most : first ≤ limit
  pub second_most : second ≤ limit
  pub single : r.paired < c → second ≡ 0
  pub trend : r.trend ≡ true → second ≤ first
  pub scalar : c ≡ r.scalar → (1 ≤ first) × (first ≤ largest_scalar)

-- an entry that the rules let pass
pub record AcceptedLine (e : Entry) : Type 0 where
  pub key : Key e.code e.block e.class
  pub amounts : AcceptedAmounts (row_for e) e.class e.first e.second
