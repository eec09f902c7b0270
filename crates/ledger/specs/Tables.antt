-- The tables that hold a sheet's entries: first amounts, second amounts and marks have a table each, that of second amounts a place for the lines
-- alone that can have one. Assumes nothing.
use Rattle.std.specs.Prelude.{◌≡◌, ℕ, List}
use Rattle.basics.specs.Each.{Each}
use Rattle.sheet_line.specs.Rules.{AcceptedLine}
use Rattle.sheet_line.specs.declared.Entry.{Entry}
use Rattle.places.specs.Entries.{first_of, second_of}
use Rattle.places.specs.Places.{places, second_places, table}
use Rattle.places.specs.Marks.{marks_of}

-- all that the three tables hold of some entries
pub record TablesOf (es : List Entry) (firsts seconds marks : List ℕ) : Type 0 where
  pub first : firsts ≡ table places first_of es
  pub second : seconds ≡ table second_places second_of es
  pub mark : marks ≡ marks_of es

-- the tables hold these lines, which no rule of a line turns away
pub record TablesHold (es : List Entry) (firsts seconds marks : List ℕ) : Type 0 where
  pub tables : TablesOf es firsts seconds marks
  pub lines : Each AcceptedLine es

-- the tables hold some lines
abbrev pub HoldSome : List ℕ → List ℕ → List ℕ → Type 0
HoldSome firsts seconds marks = (es : List Entry) × TablesHold es firsts seconds marks
