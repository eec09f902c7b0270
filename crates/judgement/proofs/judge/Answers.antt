-- The length and the lines in turn; the ledger holds good lines, and rules 12 and 13 are told of these. Assumes nothing.
use Rattle.basics.proofs.Common.{◌≡◌, Ok, Err, ◌∙◌, rules, err_from_is_err_and}
use Rattle.sheet_length.specs.Measured.{measured}
use Rattle.judgement.proofs.Rules.{length_refused, bad_line, holds, good_lines, no_lines, lines_held}
use Rattle.judgement.proofs.judge.Goals as goal

pub returns-in_err-length : goal.returns-in_err-length
returns-in_err-length c =
    let p = err_from_is_err_and c.from_residual.result c.from_residual.ensures.1 in
    let w : measured c.args.sheet.now ≡ Err c.in_err-length.field-0.0 = search rules in
    let n = no_lines _ c.args.ledger.now (length_refused c.args.sheet.now _ w) in
    rw (p.1, p.2) (record { findings = n.0; tables = n.1; behind_rows = tt })

pub returns-in_err-read : goal.returns-in_err-read
returns-in_err-read c =
    let s = c.args.sheet.now in
    let p = err_from_is_err_and c.from_residual-in_err-read.result c.from_residual-in_err-read.ensures.1 in
    let w : measured s ≡ Ok (tt {0}) = search rules in
    let n = no_lines _ c.read_lines-read.new.ledger (bad_line s w _ c.read_lines-read.new.ledger c.read_lines-read.ensures _ c.in_err-read.was) in
    rw (p.1, p.2) (record { findings = n.0; tables = n.1; behind_rows = tt })

pub returns : goal.returns
returns c =
    let s = c.args.sheet.now in
    let w : measured s ≡ Ok (tt {0}) = search rules in
    let h = holds s w _ c.read_lines-read.new.ledger c.read_lines-read.ensures _ c.in_ok-read.was in record {
      findings = c.after_lines.ensures.findings _ h ∙ good_lines s w _ c.read_lines-read.new.ledger c.read_lines-read.ensures _ c.in_ok-read.was;
      tables = lines_held s c.read_lines-read.new.ledger h;
      behind_rows = c.after_lines.ensures.behind_rows;
    }
