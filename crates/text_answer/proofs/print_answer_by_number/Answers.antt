-- The line of a refusal goes in front of the room. Assumes nothing.
use Rattle.basics.proofs.Common.{◌≡◌, ℕ, ◌-◌, ◌≤◌, List, length, take, Err, Result, sym, refl, length-take-le, put_mid}
use Rattle.refusal.specs.declared.Place.{Place}
use Rattle.sizes.specs.Sizes.{number_columns}
use Rattle.report_line.specs.Line.{line_bytes, report_line_bytes, row_in}
use Rattle.report_line.proofs.LineBytes.{in_columns}
use Rattle.report_line.proofs.Readback.{length_line}
use Rattle.text_answer.specs.Printing.{refusal_row, refusal_line, ShownByNumber}
use Rattle.text_answer.proofs.print_answer_by_number.Goals as goal

module _ (a : Result ℕ (ℕ × Place)) (r : List ℕ) where
  in_front : {n : ℕ} {p : Place} {ys : List ℕ} → a ≡ Err (n, p) → report_line_bytes ≤ length r
      → ys ≡ row_in (length (take report_line_bytes r) - line_bytes 0) (refusal_row n p) → ShownByNumber a report_line_bytes r (put_mid 0 report_line_bytes r ys)
  unfolding refusal_line
  in_front e h y =
      let l = in_columns number_columns (take report_line_bytes r) _ _ _ _ (length-take-le report_line_bytes r h) y in
      rw e (record { count = sym (length_line _ _ _ _ refl); bytes = rw l })

pub returns-in-Err : goal.returns-in-Err
returns-in-Err c =
    in_front _ _ c.in-Err.is c.requires c.write_refusal_by_number.ensures
