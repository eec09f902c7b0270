-- The call that converts a sheet, document 02's #110: what it answers, and every byte of the lent room afterwards. 'We need a converter both ways;
-- line 1's letters tell which.' The sheet's own rules come first, with 20 and 21 'in a line after 19'; 'rules 12, 13, 16 and 17 aren't tested, 14
-- (the output shorter than the sheet) comes last'. 'A refusal writes nothing; accepted, they give the length written, and bytes past it keep their
-- content.' Assumes nothing.
use Rattle.std.specs.Prelude.{◌≡◌, List, [], ◌∷◌, ℕ, length, take}
use Rattle.refusal.specs.Outcome.{Outcome}
use Rattle.refusal.specs.Outcome.Outcome.{accepted, refused}
use Rattle.refusal.specs.declared.Place.TheVariants.{Line}
use Rattle.sheet_length.specs.Measured.{measured, after_length}
use Rattle.order.specs.Reading.{Reading, reading_by, print_by}
use Rattle.order.specs.Reading.Reading.{complete, stopped}
use Rattle.text_answer.specs.Lent.{Text, Done, lent}
use Rattle.text_answer.specs.Lent.Text.{no_text, bytes}
use Rattle.scaled_line.specs.Scale.{scale_of, parse_in}
use Rattle.scaled_line.specs.Amounts.{convertible}
use Rattle.scaled_line.specs.Other.{other_line}
use Rattle.scaled_line.specs.declared.Scale.{Scale}

-- ---- a sheet converted

-- the lines of a sheet of this sort
abbrev pub reading_in : Scale → List ℕ → Reading
reading_in d s = reading_by (parse_in d) (convertible d) s

-- by what was read: the first bad line, or all lines in the other sort
abbrev pub after_reading : Scale → Reading → Text
after_reading d (stopped es n i) = no_text n (Line i)
after_reading d (complete es) = bytes (print_by (other_line d) es)

-- a sheet of either sort: by its length, then by its lines
unfoldable pub conversion : List ℕ → Text
conversion s = after_length (measured s) no_text (after_reading (scale_of s) (reading_in (scale_of s) s))

-- ---- the call

-- the call on a sheet s and lent room r. Rule 14, 'the output shorter than the sheet', is tested of the converted sheet, which is as long
unfoldable pub convert_call : List ℕ → List ℕ → Done
convert_call s r = lent (conversion s) r

-- 'A converted sheet converted back is the first one, byte for byte': the bytes that an accepted call has written are a sheet that is accepted
-- again, and converted it is the first one; there are as many of them as the sheet has
abbrev pub ConvertsBack : List ℕ → Outcome → List ℕ → Type 0
ConvertsBack s (accepted []) r = ⊥
ConvertsBack s (accepted (n ∷ ns)) r = (n ≡ length s) × (conversion (take n r) ≡ bytes s)
ConvertsBack s (refused n p) r = Unit {0}
