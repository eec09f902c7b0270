-- Small sheets, and what reading their lines answers: the order of lines, rules 11 and 19, and which fault of which line is answered where a line or two
-- have more than one. All computed, in one table. Assumes nothing.
use Rattle.basics.proofs.Common.{◌≡◌, ℕ, List, [], ◌∷◌, ◌++◌, map, refl, pick}
use Rattle.field.specs.Field.{digits, field, digit_or_space, leading_digits, decimal}
use Rattle.codes.specs.Codes.{is_code, code_among}
use Rattle.codes.specs.declared.Code.{Code, TheVariants.Rsk, TheVariants.Oth, TheVariants.Mor, TheVariants.Vol, TheVariants.Acq, TheVariants.Gen, TheVariants.Crd}
use Rattle.key_columns.specs.Key.{key}
use Rattle.layout.specs.Columns.{spaced, layout_of, lettered}
use Rattle.sheet_line.specs.declared.Entry.{Entry}
use Rattle.sheet_line.specs.Line.{print_line}
use Rattle.sheet_line.specs.Rules.{outside, rule10, rule9, rule8, rule6, rule5, parse_line}
use Rattle.places.specs.Entries.{has_key, lookup}
use Rattle.order.specs.Order.{key_of, rule19, rule11}
use Rattle.order.specs.Reading.{Reading, Reading.complete, Reading.stopped, on_line, read_from, reading}

-- the lines of a sheet, the first one first, and what reading them answers: the number of the rule and that of the line, nothing where all are good
pub record Sheet : Type 0 where
  pub lines : List Entry
  pub answer : List ℕ

-- a line by its code, block, class and first amount; the second one is 0
abbrev line : Code → ℕ → ℕ → ℕ → Entry
line k b c f = record { code = k; block = b; class = c; first = f; second = 0 }

abbrev pub sheets : List Sheet
sheets =
    -- the order of codes; in one code that of blocks; in one block that of classes
    record {
      lines =
          line Rsk 1 1 0 ∷ line Rsk 1 7 0 ∷ line Rsk 32 1 0 ∷ line Oth 1 3 0 ∷ line Oth 2 1 0 ∷ line Mor 1 1 0 ∷ line Vol 1 8 0 ∷ line Vol 2 1 0
          ∷ line Acq 1 1 0 ∷ line Gen 0 1 0 ∷ line Crd 0 16 0 ∷ line Crd 17 1 0 ∷ [];
      answer = [];
    }
    ∷ record { lines = line Oth 1 1 0 ∷ line Rsk 1 1 0 ∷ []; answer = 19 ∷ 2 ∷ [] }
    ∷ record { lines = line Mor 1 1 0 ∷ line Oth 1 1 0 ∷ []; answer = 19 ∷ 2 ∷ [] }
    ∷ record { lines = line Vol 1 1 0 ∷ line Mor 1 1 0 ∷ []; answer = 19 ∷ 2 ∷ [] }
    ∷ record { lines = line Acq 1 1 0 ∷ line Vol 1 1 0 ∷ []; answer = 19 ∷ 2 ∷ [] }
    ∷ record { lines = line Gen 0 1 0 ∷ line Acq 1 1 0 ∷ []; answer = 19 ∷ 2 ∷ [] }
    ∷ record { lines = line Crd 0 1 0 ∷ line Gen 0 1 0 ∷ []; answer = 19 ∷ 2 ∷ [] }
    ∷ record { lines = line Rsk 2 1 0 ∷ line Rsk 1 2 0 ∷ []; answer = 19 ∷ 2 ∷ [] }
    ∷ record { lines = line Rsk 1 2 0 ∷ line Rsk 1 1 0 ∷ []; answer = 19 ∷ 2 ∷ [] }
    -- the line before is the last one, not the first
    ∷ record { lines = line Rsk 1 1 0 ∷ line Rsk 1 3 0 ∷ line Rsk 1 2 0 ∷ []; answer = 19 ∷ 3 ∷ [] }
    -- a line that stood before, right before or not, with whatever amounts
    ∷ record { lines = line Rsk 1 1 0 ∷ line Rsk 1 1 0 ∷ []; answer = 11 ∷ 2 ∷ [] }
    ∷ record { lines = line Rsk 1 1 0 ∷ line Rsk 1 2 0 ∷ line Rsk 1 1 5 ∷ []; answer = 11 ∷ 3 ∷ [] }
    -- 10 before 11, and before 19: g is 0 in a line that stood before, and in one that doesn't come after the one before it
    ∷ record { lines = line Gen 0 4 1 ∷ line Gen 0 4 0 ∷ []; answer = 10 ∷ 2 ∷ [] }
    ∷ record { lines = line Gen 0 5 0 ∷ line Gen 0 4 0 ∷ []; answer = 10 ∷ 2 ∷ [] }
    -- the first bad line, whatever the rules of later ones: 19 in line 2, 5 in line 3
    ∷ record { lines = line Rsk 2 1 0 ∷ line Rsk 1 1 0 ∷ line Rsk 33 1 0 ∷ []; answer = 19 ∷ 2 ∷ [] }
    ∷ []

-- the bytes of lines, one after the other
abbrev pub bytes_of : List Entry → List ℕ
bytes_of [] = []
bytes_of (e ∷ es) = print_line e ++ bytes_of es

-- what a reading answers
abbrev pub answer_of : Reading → List ℕ
answer_of (complete es) = []
answer_of (stopped es n i) = n ∷ i ∷ []

-- what is found, of the sheets' bytes, is what is wanted
pub in_order : map (λ (s : Sheet). answer_of (reading (bytes_of s.lines))) sheets ≡ map (λ (s : Sheet). s.answer) sheets
unfolding
    pick digits field digit_or_space leading_digits decimal is_code code_among spaced layout_of lettered key outside
    rule10 rule9 rule8 rule6 rule5 parse_line has_key lookup key_of rule19 rule11 on_line read_from
in_order = refl
