-- The amounts of a line in the other sort of sheet, and rules 20 and 21. Document 02, #110: 'The scalar's line keeps its number; every other amount
-- is multiplied or divided by 100,000'; 'It refuses, as number 20 with its line, an amount that isn't whole thousands, and, as number 21 with its
-- line, one that passes 14 digits in cents, both in a line after 19'. Assumes nothing.
use Rattle.std.specs.Prelude.{Result, Ok, Err, Bool, true, false, not, ℕ, ◌*◌, ◌/◌, ◌%◌, ltb, eqb}
use Rattle.basics.specs.Pick.{pick}
use Rattle.amount.specs.Amount.{limit}
use Rattle.sheet_line.specs.Rules.{is_scalar}
use Rattle.refusal.specs.Outcome.{rule_number}
use Rattle.refusal.specs.declared.Rule.{Rule}
use Rattle.refusal.specs.declared.Rule.TheVariants as rule
use Rattle.sheet_line.specs.declared.Entry.{Entry}
use Rattle.scaled_line.specs.declared.Scale.{Scale}
use Rattle.scaled_line.specs.declared.Scale.TheVariants.{Cents, Thousands}

-- the cents of a thousand dollars
abbrev pub thousand_dollars : ℕ
thousand_dollars = 100000

-- ---- what is turned away

-- an amount that the other sort of sheet can't have: 'an amount that isn't whole thousands', 'one that passes 14 digits in cents'
abbrev pub barred : Scale → ℕ → Bool
barred Cents n = not (eqb (n % thousand_dollars) 0)
barred Thousands n = ltb limit (n * thousand_dollars)

-- the rule that it is refused by, 20 or 21
abbrev pub barred_by : Scale → Rule
barred_by Cents = rule.NotWholeThousands
barred_by Thousands = rule.ThousandsAboveLimit

-- whether an entry has such an amount; the scalar's line keeps its number
unfoldable pub has_barred : Scale → Entry → Bool
has_barred d e = pick (is_scalar e) false (pick (barred d e.first) true (barred d e.second))

-- rule 20 of a sheet in cents, rule 21 of one in thousands
unfoldable pub rule20or21 : Scale → Entry → Result Entry Rule
rule20or21 d e = pick (has_barred d e) (Err (barred_by d)) (Ok e)

-- the last test of a line: both rules come after 19
abbrev pub convertible : Scale → Result Entry Rule → Result Entry Rule
convertible d (Err r) = Err r
convertible d (Ok e) = rule20or21 d e

-- the same of a line that was turned away by any number, a caller's own too
abbrev pub convertible_by_number : Scale → Result Entry ℕ → Result Entry ℕ
convertible_by_number d (Err n) = Err n
convertible_by_number d (Ok e) = pick (has_barred d e) (Err (rule_number (barred_by d))) (Ok e)

-- ---- what is written

-- an amount of a sheet of this sort in the other's
abbrev pub in_other : Scale → ℕ → ℕ
in_other Cents n = n / thousand_dollars
in_other Thousands n = n * thousand_dollars

-- an amount of an entry in the other sort: the scalar's line keeps its number
unfoldable pub amount_of : Scale → Entry → ℕ → ℕ
amount_of d e n = pick (is_scalar e) n (in_other d n)

-- an entry in the other sort of sheet
abbrev pub rescaled : Scale → Entry → Entry
rescaled d e =
    record { code = e.code; block = e.block; class = e.class; first = amount_of d e e.first; second = amount_of d e e.second }
