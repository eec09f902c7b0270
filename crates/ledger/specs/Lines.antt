-- What a ledger says of the lines that its tables hold, and what entering a line changes. Assumes nothing.
use Rattle.std.specs.Prelude.{◌≡◌, ℕ, Result, Ok, Err, List, [], set}
use Rattle.refusal.specs.declared.Rule.{Rule}
use Rattle.sheet_line.specs.Rules.{AcceptedLine}
use Rattle.sheet_line.specs.declared.Entry.{Entry}
use Rattle.order.specs.Order.{Admits}
use Rattle.places.specs.Places.{index_for}
use Rattle.ledger.specs.Tables.{TablesOf, TablesHold}
use Rattle.ledger.specs.declared.Ledger.{Ledger}

-- all that a ledger's tables hold of some entries
abbrev pub Tables : List Entry → Ledger → Type 0
Tables es l = TablesOf es l.firsts l.seconds l.marks

-- a ledger that holds no entry yet
abbrev pub Empty : Ledger → Type 0
Empty l = Tables [] l

-- a ledger holds these lines, which no rule of a line turns away
abbrev pub Holds : List Entry → Ledger → Type 0
Holds es l = TablesHold es l.firsts l.seconds l.marks

-- whichever lines a ledger holds
abbrev pub OfLines : Ledger → (List Entry → Type 0) → Type 0
OfLines l P = (es : List Entry) → Holds es l → P es

-- a line that was read: an entry that no rule of a line turns away, or a rule
abbrev pub Sound : Result Entry Rule → Type 0
Sound (Ok e) = AcceptedLine e
Sound (Err r) = Unit {0}

-- the amounts after a line: those of an admitted one are there, its second one where there is a place for it
abbrev pub AmountsAfter : Result Entry Rule → Ledger → Ledger → Type 0
AmountsAfter (Ok e) l l' = (l'.firsts ≡ set l.firsts (index_for e) e.first) × (l'.seconds ≡ set l.seconds (index_for e) e.second)
AmountsAfter (Err r) l l' = (l'.firsts ≡ l.firsts) × (l'.seconds ≡ l.seconds)

-- a line after those of a ledger, and the ledger after it
pub record Entered (line : Result Entry Rule) (last : ℕ) (l : Ledger) (r : Result Entry Rule) (l' : Ledger) : Type 0 where
  pub marks : Admits line last l.marks r l'.marks
  pub amounts : AmountsAfter r l l'
