-- A line of either sort is read and printed, each undoing the other; the rules that it is refused by. Assumes nothing.
use Rattle.basics.proofs.Common.{◌≡◌, ℕ, List, length, Ok, Err, Result, refl, subst, by_test, never}
use Rattle.refusal.specs.Outcome.{rule_number, Judging, judging}
use Rattle.layout.specs.Columns.{sheet_line_bytes}
use Rattle.layout.proofs.Columns.{length_lettered}
use Rattle.sheet_line.specs.Line.{numbers_of}
use Rattle.sheet_line.specs.Rules.{AcceptedLine}
use Rattle.refusal.specs.declared.Rule.{Rule}
use Rattle.sheet_line.specs.declared.Entry.{Entry}
use Rattle.sheet_line.proofs.Acceptance.{line_good}
use Rattle.sheet_line.proofs.PrintedLines.{parse_print, print_parsed}
use Rattle.sheet_line.proofs.Refusals.{line_judging}
use Rattle.scaled_line.specs.Scale.{letters_in, with_capitals, parse_in, print_in}
use Rattle.scaled_line.specs.Amounts.{barred_by, rule20or21, convertible}
use Rattle.scaled_line.specs.declared.Scale.{Scale, TheVariants.Cents, TheVariants.Thousands}
use Rattle.scaled_line.proofs.SmallLetters.{three_in, length_with_capitals, small_printed, small_read}

-- ---- read and printed

pub line_accepted : (d : Scale) (s : List ℕ) → length s ≡ sheet_line_bytes → (e : Entry) → parse_in d s ≡ Ok e → AcceptedLine e
line_accepted Cents s h e q = line_good s h e q
line_accepted Thousands s h e q = line_good (with_capitals s) (length_with_capitals s h) e q

pub line_printed : (d : Scale) (s : List ℕ) → length s ≡ sheet_line_bytes → (e : Entry) → parse_in d s ≡ Ok e → s ≡ print_in d e
line_printed Cents s h e q = print_parsed s h e q
line_printed Thousands s h e q = small_printed s h e q

pub line_parsed : (d : Scale) (e : Entry) → AcceptedLine e → parse_in d (print_in d e) ≡ Ok e
line_parsed Cents e a = parse_print e a
line_parsed Thousands e a = small_read e a

pub length_in_lem : (d : Scale) (e : Entry) → length (print_in d e) ≡ sheet_line_bytes
length_in_lem d e = length_lettered (letters_in d e.code) (three_in d e.code) (numbers_of e)

-- ---- the rules that a line is refused by

pub line_refused : (d : Scale) (s : List ℕ) (r : Rule) → parse_in d s ≡ Err r → Judging (rule_number r)
line_refused Cents s r q = line_judging s r q
line_refused Thousands s r q = line_judging (with_capitals s) r q

barred_judging : (d : Scale) → Judging (rule_number (barred_by d))
barred_judging Cents = judging 20 refl refl refl
barred_judging Thousands = judging 21 refl refl refl

pub test_judging : (d : Scale) (l : Result Entry Rule) → ((r : Rule) → l ≡ Err r → Judging (rule_number r)) → (r : Rule)
    → convertible d l ≡ Err r → Judging (rule_number r)
unfolding rule20or21
test_judging d (Err n) j r = j r
test_judging d (Ok e) j r =
    by_test (λ l. l ≡ Err r → Judging (rule_number r)) _ _ _
    (λ t q. let e : barred_by d ≡ r = cc in subst (λ x. Judging (rule_number x)) e (barred_judging d)) (λ t q. never (cc))
