-- A sheet of either sort is read as its lines and printed as them: what the reading of a sheet asks of how a line is parsed, printed and tested
-- last. Assumes nothing.
use Rattle.basics.proofs.Common.{◌≡◌, ℕ, List, Err}
use Rattle.refusal.specs.Outcome.{Judging, rule_number}
use Rattle.sheet_line.specs.declared.Entry.{Entry}
use Rattle.refusal.specs.declared.Rule.{Rule}
use Rattle.scaled_line.specs.Scale.{parse_in, print_in}
use Rattle.scaled_line.specs.Amounts.{convertible}
use Rattle.scaled_line.specs.declared.Scale.{Scale}
use Rattle.scaled_line.proofs.ScaledAmounts.{keeps}
use Rattle.scaled_line.proofs.Lines.{line_accepted, line_printed, line_parsed, length_in_lem, line_refused, test_judging}
use Rattle.order.specs.Reading.{line_after}
use Rattle.order.proofs.Admission.{refused_admitted}
use Rattle.order.proofs.Lines.{Reads}
use Rattle.order.proofs.PrintedSheets.{Inverse}

pub reads : (d : Scale) → Reads (parse_in d) (convertible d)
reads d = record { good = line_accepted d; keeps = keeps d }

pub inverse : (d : Scale) → Inverse (parse_in d) (print_in d)
inverse d = record { long = length_in_lem d; printed = line_printed d; parsed = line_parsed d }

-- the numbers that a line is refused by
pub judged : (d : Scale) (seen : List Entry) (s : List ℕ) (r : Rule)
    → convertible d (line_after seen (parse_in d s)) ≡ Err r → Judging (rule_number r)
judged d seen s = test_judging d (line_after seen (parse_in d s)) (refused_admitted _ _ (parse_in d s) (line_refused d s))
