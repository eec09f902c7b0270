-- A call that writes into lent room, whatever its text: the report of a sheet (document 01), the converted sheet, the lines of the
-- movements, the listing of a check (document 02, #110, #111, #113). Rule 14 comes
-- last, 'lent report shorter than the report', and then the text: it gives the length written, 'and bytes past it keep their content'. 'A refusal
-- writes nothing.'
-- Assumes nothing.
use Rattle.std.specs.Prelude.{◌≡◌, Result, Ok, Err, List, [], ◌∷◌, ◌++◌, ℕ, ◌≤◌, ◌<◌, ltb, length, drop}
use Rattle.basics.specs.Pick.{pick}
use Rattle.refusal.specs.Outcome.{Outcome}
use Rattle.refusal.specs.Outcome.Outcome.{accepted, refused}
use Rattle.refusal.specs.declared.Place.{Place}
use Rattle.refusal.specs.declared.Place.TheVariants.{Nowhere}

-- what a call has to say of its input, before the room is looked at
pub data Text : Type 0 where
  -- the number that turns the input away, and its place
  no_text : ℕ → Place → Text
  -- the bytes to be written
  bytes : List ℕ → Text

-- what a call's result says that tells its refusal by a number
abbrev pub stated_by_number : Result ℕ (ℕ × Place) → Outcome
stated_by_number (Ok n) = accepted (n ∷ [])
stated_by_number (Err (n, p)) = refused n p

-- the outcome, and what is in the lent room afterwards
pub record Done : Type 0 where
  pub outcome : Outcome
  pub room : List ℕ

-- a refusal leaves the room r as it was
abbrev pub untouched : ℕ → Place → List ℕ → Done
untouched n p r = record { outcome = refused n p; room = r }

-- rule 14, and then the text t from the start of the room r
abbrev pub rule14 : List ℕ → List ℕ → Done
rule14 t r =
    let n = length t in
    pick (ltb (length r) n) (untouched 14 Nowhere r) (record { outcome = accepted (n ∷ []); room = t ++ drop n r })

-- the call with the lent room r
unfoldable pub lent : Text → List ℕ → Done
lent (no_text n p) r = untouched n p r
lent (bytes t) r = rule14 t r

-- what 14 says of a call on lent room that has x to say, and of the room r: there is a text, it is longer than r, and of any room that has its length
-- the call leaves it in front and gives that length
pub record TooLong (call : List ℕ → Done) (x : Text) (r : List ℕ) : Type 0 where
  pub text : List ℕ
  pub says : x ≡ bytes text
  pub longer : length r < length text
  pub fits : (q : List ℕ) → length text ≤ length q → call q ≡ record { outcome = accepted (length text ∷ []); room = text ++ drop (length text) q }
