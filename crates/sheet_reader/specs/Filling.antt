-- What reading a sheet's lines leaves in the ledger, and its answer: how many lines there are, or 'the first bad line' (document 01).
-- Assumes nothing.
use Rattle.std.specs.Prelude.{◌≡◌, ℕ, Result}
use Rattle.refusal.specs.Outcome.{stated_number}
use Rattle.refusal.specs.declared.Refusal.{Refusal}
use Rattle.order.specs.Reading.{Reading, entries_of, outcome_of}
use Rattle.ledger.specs.Lines.{Tables}
use Rattle.ledger.specs.declared.Ledger.{Ledger}

-- the answer to a reading, and the ledger after it
pub record Filled (o : Reading) (r : Result ℕ Refusal) (l : Ledger) : Type 0 where
  pub answer : stated_number r ≡ outcome_of o
  pub tables : Tables (entries_of o) l
