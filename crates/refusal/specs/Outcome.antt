-- What a call gives, in document 01's terms: 'A refusal is its number with a line, a position, or no place', and 'A refused call
-- gives no figure'. Document 02 adds a risk (#111, 'as number 22 with its risk') and a sheet (#114, 'as number 24 with the sheet'). A call's
-- answer is a `Result`, whose error is the rule with its place; `stated_by` turns each case into one of these. Assumes nothing.
use Rattle.std.specs.Prelude.{◌≡◌, true, false, Result, Ok, Err, List, [], ◌∷◌, ℕ, ◌<◌, eqb, ltb, get_or}
use Rattle.std.proofs.Common.{arith, ltb-true}
use Rattle.std.proofs.lemmas.Bool.{eqb-false}
use Rattle.refusal.specs.declared.Place.{Place}
use Rattle.refusal.specs.declared.Place.TheVariants.{Line, Position, Risk, Sheet, Nowhere}
use Rattle.refusal.specs.declared.Rule.{Rule}
use Rattle.refusal.specs.declared.Rule.TheVariants as rule
use Rattle.refusal.specs.declared.Refusal.{Refusal}

-- accepted with its values, or refused by number and place
pub data Outcome : Type 0 where
  -- the call's values, in document 01's order
  accepted : List ℕ → Outcome
  -- the number of the row under which it is turned away, and the place
  refused : ℕ → Place → Outcome

-- no refusal has the number 0, which an exported call gives where it accepts
abbrev pub Never0 : Outcome → Type 0
Never0 o = (p : Place) → o ≡ refused 0 p → ⊥

-- the number of a rule: its row in document 01's table, 'What is turned away', and what document 02's requests add to it
abbrev pub rule_number : Rule → ℕ
rule_number rule.SheetTooLong = 1
rule_number rule.NotWholeLines = 2
rule_number rule.BrokenLayout = 3
rule_number rule.UnknownCode = 4
rule_number rule.BlockOutside = 5
rule_number rule.ClassOutside = 6
rule_number rule.AmountAboveLimit = 7
rule_number rule.SecondAmount = 8
rule_number rule.TrendAboveComponent = 9
rule_number rule.ScalarOutside = 10
rule_number rule.LineRepeated = 11
rule_number rule.ScalarMissing = 12
rule_number rule.CreditsAboveBracket = 13
rule_number rule.RoomTooShort = 14
rule_number rule.VolumesLength = 15
rule_number rule.CreditAboveTrend = 16
rule_number rule.DividendBarred = 17
rule_number rule.UnknownRow = 18
rule_number rule.OutOfOrder = 19
rule_number rule.NotWholeThousands = 20
rule_number rule.ThousandsAboveLimit = 21
rule_number rule.RaiseAboveLimit = 22
rule_number rule.NoShares = 23
rule_number rule.TooManySheets = 24
rule_number rule.SheetNotClosed = 25

-- what a call's result says in document 01's numbers, by the values of what it gives
abbrev pub stated_by : {A : Type 0} → (A → List ℕ) → Result A Refusal → Outcome
stated_by values (Ok x) = accepted (values x)
stated_by values (Err r) = refused (rule_number r.0) r.1

-- the same where a call gives one number, an amount or how many bytes it wrote, and where it gives several
abbrev pub stated_number : Result ℕ Refusal → Outcome
stated_number = stated_by (λ n. n ∷ [])

abbrev pub stated_numbers : Result (List ℕ) Refusal → Outcome
stated_numbers = stated_by (λ ns. ns)

-- a place as its kind, which include/tsav.h names, and its line, position, risk or sheet; no place has 0
abbrev pub place_of : Place → List ℕ
place_of Nowhere = 0 ∷ 0 ∷ []
place_of (Line i) = 1 ∷ i ∷ []
place_of (Position i) = 2 ∷ i ∷ []
place_of (Risk i) = 3 ∷ i ∷ []
place_of (Sheet i) = 4 ∷ i ∷ []

-- the number of a place: 'printed, no place is 0'
abbrev pub printed : Place → ℕ
printed p = get_or (place_of p) 1 0

-- a number that judging a sheet refuses by: never 0, which an exported call gives where it accepts, never 14, which speaks of the lent
-- room and not of the sheet, and none that passes the two columns of a REF line
pub record Judging (n : ℕ) : Type 0 where
  pub not_0 : n ≡ 0 → ⊥
  pub not_14 : n ≡ 14 → ⊥
  pub two_columns : n < 100

-- a rule's number is one, by three computed tests
pub judging : (n : ℕ) → eqb n 0 ≡ false → eqb n 14 ≡ false → ltb n 100 ≡ true → Judging n
judging n z w h =
    record {
      not_0 = λ e. omega (arith, eqb-false n 0 z);
      not_14 = λ e. omega (arith, eqb-false n 14 w);
      two_columns = omega (arith, ltb-true n 100 h);
    }
