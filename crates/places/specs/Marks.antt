-- The table of marks: which lines stood before, and what it says of a line and of a block. Assumes nothing.
use Rattle.std.specs.Prelude.{ℕ, List, [], ◌∷◌, Bool, true, ltb, set, replicate}
use Rattle.basics.specs.First.{any_to}
use Rattle.basics.specs.Pick.{pick}
use Rattle.codes.specs.Codes.{risk_classes, other_classes}
use Rattle.codes.specs.declared.Code.{Code}
use Rattle.codes.specs.declared.Code.TheVariants.{Rsk, Oth}
use Rattle.sheet_line.specs.declared.Entry.{Entry}
use Rattle.places.specs.Places.{places, index_for, tabled}

-- the table of the marks of entries
unfoldable pub marks_of : List Entry → List ℕ
marks_of [] = replicate places 0
marks_of (e ∷ es) = set (marks_of es) (index_for e) 1

-- whether a table of marks has one for a code, block and class: any number but 0
abbrev pub has_mark : List ℕ → Code → ℕ → ℕ → Bool
has_mark m k b c = ltb 0 (tabled m k b c)

-- whether one of a block's RSK lines has a mark, or one of its OTH lines
abbrev pub block_marked : List ℕ → ℕ → Bool
block_marked m b = pick (any_to (has_mark m Rsk b) risk_classes) true (any_to (has_mark m Oth b) other_classes)
