-- The listing of the lines whose needs are unmet. Document 02, #113: 'The listing follows the sheet's order, 20 bytes a line: code, block and class in
-- the sheet's columns, the companion's in 11–13, 15–16, 18–19 (class 0 for a CRD line), a line feed.' Assumes nothing.
use Rattle.std.specs.Prelude.{Option, Some, None, List, [], ◌∷◌, ◌++◌, ℕ, ◌+◌, ◌*◌}
use Rattle.basics.specs.Pick.{pick}
use Rattle.codes.specs.Codes.{letters_of}
use Rattle.key_columns.specs.Key.{key_bytes, key}
use Rattle.sheet_line.specs.declared.Entry.{Entry}
use Rattle.order.specs.Reading.{print_by}
use Rattle.needs.specs.Needs.{label_for, need_of, unmet}
use Rattle.needs.specs.declared.Label.{Label}

-- '20 bytes a line': two labels of columns 1–9, a space and a line feed
abbrev pub listed_bytes : ℕ
listed_bytes = 2 * key_bytes + 2

-- 'code, block and class in the sheet's columns': 1–3, 5–6 and 8–9
unfoldable pub label_of : Label → List ℕ
label_of l = key (letters_of l.code) l.block l.class

-- a line and its companion
unfoldable pub listed_line : Label → Label → List ℕ
listed_line l m = label_of l ++ (32 ∷ []) ++ label_of m ++ (10 ∷ [])

-- the line that the listing has for a need; for none there is nothing to list
abbrev pub listed_for : Label → Option Label → List ℕ
listed_for l None = []
listed_for l (Some m) = listed_line l m

-- the line that the listing has for a line of the sheet
abbrev pub line_for : Entry → List ℕ
line_for e = listed_for (label_for e) (need_of (label_for e))

-- the listing of a sheet's lines, in their order
unfoldable pub listing : List Entry → List ℕ
listing es = print_by (λ e. pick (unmet es e) (line_for e) []) es
