-- Lines at both ends of what documents 01 and 02 give each code, its blocks, its classes and the scalar's range, and one step past them, with what
-- reading tells of each: all computed, in one table. A definition that lets a line through which the papers turn away, or the other way round, has
-- another number there. Assumes nothing.
use Rattle.basics.proofs.Common.{◌≡◌, ℕ, List, [], ◌∷◌, ◌++◌, map, Ok, Err, Result, refl, pick}
use Rattle.field.specs.Field.{digits, field, digit_or_space, leading_digits, decimal}
use Rattle.refusal.specs.Outcome.{rule_number}
use Rattle.refusal.specs.declared.Rule.{Rule}
use Rattle.codes.specs.Codes.{is_code, code_among}
use Rattle.codes.specs.declared.Code.{Code, TheVariants.Rsk, TheVariants.Oth, TheVariants.Mor, TheVariants.Vol, TheVariants.Acq, TheVariants.Gen, TheVariants.Crd}
use Rattle.key_columns.specs.Key.{key}
use Rattle.layout.specs.Columns.{spaced, layout_of, lettered}
use Rattle.sheet_line.specs.declared.Entry.{Entry}
use Rattle.sheet_line.specs.Line.{print_line}
use Rattle.sheet_line.specs.Rules.{outside, rule10, rule9, rule8, rule6, rule5, parse_line}

-- a line, and the number of the rule that it is refused by; 0 where it is good
pub record Limit : Type 0 where
  pub entry : Entry
  pub number : ℕ

-- by code, block, class, both amounts and number
abbrev limit : Code → ℕ → ℕ → ℕ → ℕ → ℕ → Limit
limit k b c f g n = record { entry = record { code = k; block = b; class = c; first = f; second = g }; number = n }

-- rule 5 at the blocks around a code's range
abbrev pub of_blocks : List Limit
of_blocks =
    limit Rsk 0 1 0 0 5 ∷ limit Rsk 1 1 0 0 0 ∷ limit Rsk 32 1 0 0 0 ∷ limit Rsk 33 1 0 0 5
    ∷ limit Oth 0 1 0 0 5 ∷ limit Oth 1 1 0 0 0 ∷ limit Oth 32 1 0 0 0 ∷ limit Oth 33 1 0 0 5
    ∷ limit Mor 0 1 0 0 5 ∷ limit Mor 1 1 0 0 0 ∷ limit Mor 16 1 0 0 0 ∷ limit Mor 17 1 0 0 5
    ∷ limit Vol 0 1 0 0 5 ∷ limit Vol 1 1 0 0 0 ∷ limit Vol 16 1 0 0 0 ∷ limit Vol 17 1 0 0 5
    ∷ limit Acq 0 1 0 0 5 ∷ limit Acq 1 1 0 0 0 ∷ limit Acq 16 1 0 0 0 ∷ limit Acq 17 1 0 0 5
    ∷ limit Gen 0 1 0 0 0 ∷ limit Gen 1 1 0 0 5
    ∷ limit Crd 0 1 0 0 0 ∷ limit Crd 1 1 0 0 5 ∷ limit Crd 16 1 0 0 5 ∷ limit Crd 17 1 0 0 0 ∷ limit Crd 32 1 0 0 0 ∷ limit Crd 33 1 0 0 5
    ∷ []

-- rule 6 at the classes around a code's range
abbrev pub of_classes : List Limit
of_classes =
    limit Rsk 1 0 0 0 6 ∷ limit Rsk 1 7 0 0 0 ∷ limit Rsk 1 8 0 0 6
    ∷ limit Oth 1 0 0 0 6 ∷ limit Oth 1 3 0 0 0 ∷ limit Oth 1 4 0 0 6
    ∷ limit Mor 1 0 0 0 6 ∷ limit Mor 1 2 0 0 6
    ∷ limit Vol 1 0 0 0 6 ∷ limit Vol 1 8 0 0 0 ∷ limit Vol 1 9 0 0 6
    ∷ limit Acq 1 0 0 0 6 ∷ limit Acq 1 8 0 0 0 ∷ limit Acq 1 9 0 0 6
    ∷ limit Gen 0 0 0 0 6 ∷ limit Gen 0 5 0 0 0 ∷ limit Gen 0 6 0 0 6
    ∷ limit Crd 0 0 0 0 6 ∷ limit Crd 0 16 0 0 0 ∷ limit Crd 0 17 0 0 6 ∷ limit Crd 17 0 0 0 6 ∷ limit Crd 17 2 0 0 6
    ∷ []

-- rules 8 and 9: a second amount where a line has one alone, and where it is above the first
abbrev pub of_seconds : List Limit
of_seconds =
    limit Rsk 1 1 2 2 0 ∷ limit Rsk 1 1 2 3 9 ∷ limit Rsk 17 6 0 1 9 ∷ limit Rsk 1 7 2 0 0 ∷ limit Rsk 1 7 2 1 8
    ∷ limit Oth 1 1 2 1 8 ∷ limit Oth 1 2 2 1 8 ∷ limit Oth 1 3 2 1 8
    ∷ limit Mor 1 1 2 3 0 ∷ limit Vol 1 1 2 3 0 ∷ limit Vol 1 7 0 3 0
    ∷ limit Acq 1 1 2 1 8 ∷ limit Acq 1 7 2 1 8
    ∷ limit Gen 0 1 2 1 8 ∷ limit Gen 0 2 2 1 8 ∷ limit Gen 0 3 2 1 8 ∷ limit Gen 0 4 2 1 8 ∷ limit Gen 0 5 2 1 8
    ∷ limit Crd 0 1 2 1 8 ∷ limit Crd 0 16 2 1 8 ∷ limit Crd 17 1 2 1 8
    ∷ []

-- rule 10 around the scalar's range, and lines that are not the scalar's
abbrev pub of_scalars : List Limit
of_scalars =
    limit Gen 0 4 0 0 10 ∷ limit Gen 0 4 1 0 0 ∷ limit Gen 0 4 20000 0 0 ∷ limit Gen 0 4 20001 0 10
    ∷ limit Gen 0 3 0 0 0 ∷ limit Gen 0 5 20001 0 0 ∷ limit Crd 0 4 0 0 0 ∷ limit Crd 0 4 20001 0 0
    ∷ []

-- the whole table
abbrev pub limits : List Limit
limits = of_blocks ++ of_classes ++ of_seconds ++ of_scalars

-- the number that reading a line tells
abbrev pub refusal_number : Result Entry Rule → ℕ
refusal_number (Ok e) = 0
refusal_number (Err r) = rule_number r

-- the numbers found, of the lines' bytes, are those wanted
pub limits_hold : map (λ (l : Limit). refusal_number (parse_line (print_line l.entry))) limits ≡ map (λ (l : Limit). l.number) limits
unfolding
    pick digits field digit_or_space leading_digits decimal is_code code_among spaced layout_of lettered key outside
    rule10 rule9 rule8 rule6 rule5 parse_line
limits_hold = refl
