-- What a program prints: a proved function leaves the bytes in a lent room, and the program writes them. 'Writes the report; on a refusal one line,
-- REF, the refusal's number in 5–6, 0 in 8–9, the place in 11–28.' Document 02, #114, has the place in 11–29. Assumes nothing.
use Rattle.std.specs.Prelude.{◌≡◌, Result, Ok, Err, Some, List, [], ◌∷◌, ◌++◌, ℕ, length, take, drop}
use Rattle.refusal.specs.Outcome.{printed, rule_number}
use Rattle.refusal.specs.declared.Place.{Place}
use Rattle.refusal.specs.declared.Refusal.{Refusal}
use Rattle.sizes.specs.Sizes.{number_columns}
use Rattle.field.specs.Field.{field}
use Rattle.key_columns.specs.Key.{code_columns, block_columns, class_columns}
use Rattle.report_line.specs.declared.Row.{Row}
use Rattle.report_line.specs.Line.{before_number, row_in}
use Rattle.text_answer.specs.Lent.{Text}
use Rattle.text_answer.specs.Lent.Text.{no_text, bytes}

-- the code of a refusal, as bytes
abbrev pub REF : List ℕ
REF = 82 ∷ 69 ∷ 70 ∷ []

-- what the line of a refusal says: its number, item 0 and its place
abbrev pub refusal_row : ℕ → Place → Row
refusal_row n p = record { code = REF; block = n; item = 0; number = printed p }

-- that line in a report
unfoldable pub refusal_line : ℕ → Place → List ℕ
refusal_line n p = row_in number_columns (refusal_row n p)

-- a text that begins with the line of a refusal, read back by the line's columns: the code, the refusal's number, 0 and the place, each whole
pub record ReadsRefusal (n : ℕ) (p : Place) (text : List ℕ) : Type 0 where
  pub code : code_columns text ≡ REF
  pub number : field (block_columns text) ≡ Some n
  pub item : field (class_columns text) ≡ Some 0
  pub place : field (take number_columns (drop before_number text)) ≡ Some (printed p)

-- the text, or the line of the refusal
unfoldable pub printout : Text → List ℕ
printout (no_text n p) = refusal_line n p
printout (bytes t) = t

-- a text from the start of a room on, how long it is, and the rest of the room as it was
pub record Printed (text : List ℕ) (given : ℕ) (before after : List ℕ) : Type 0 where
  pub count : given ≡ length text
  pub bytes : after ≡ text ++ drop given before

-- after an answer: of a text its length, with the room as the call left it; of a refusal its line, in front of the room
abbrev pub Shown : Result ℕ Refusal → ℕ → List ℕ → List ℕ → Type 0
Shown (Ok n) given before after = (given ≡ n) × (after ≡ before)
Shown (Err r) given before after = Printed (refusal_line (rule_number r.0) r.1) given before after

-- the same after an answer that tells its refusal by a number
abbrev pub ShownByNumber : Result ℕ (ℕ × Place) → ℕ → List ℕ → List ℕ → Type 0
ShownByNumber (Ok n) given before after = (given ≡ n) × (after ≡ before)
ShownByNumber (Err (n, p)) given before after = Printed (refusal_line n p) given before after
