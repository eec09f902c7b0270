-- The table of small sheets holds, computed: the one place where the definitions of the sheet call are run. Assumes nothing.
use Rattle.basics.proofs.Common.{refl, ascending, any_to, least_from, pick, sum_to}
use Rattle.integer.specs.Sum.{sum}
use Rattle.field.specs.Field.{digits, field, digit_or_space, leading_digits, decimal}
use Rattle.guideline.specs.Factors.{factors}
use Rattle.guideline.specs.Block.{A, U, LT, Vh, y, ys, Q4, largest_of, largest, root, fine_i, a, fine_d, reported, I, D, requirement, K, figures_of}
use Rattle.guideline.specs.Operational.{total, volume, growth, operational_numerator, RO}
use Rattle.guideline.specs.Buffer.{sum_k, available, bracket, buffer}
use Rattle.mortality.specs.Credit.{twice_radicand, aggregated, diversification_credit, lowered}
use Rattle.key_columns.specs.Key.{key}
use Rattle.report_line.specs.Line.{line_in, rows_in, equal_bytes, found_in, found_at}
use Rattle.codes.specs.Codes.{is_code, code_among}
use Rattle.layout.specs.Columns.{spaced, layout_of, lettered}
use Rattle.sheet_line.specs.Rules as line
use Rattle.places.specs.Entries.{has_key, lookup, exists}
use Rattle.ledger.specs.Numbers.{pairs, block_by, volumes_by}
use Rattle.order.specs.Order.{key_of, rule19, rule11}
use Rattle.order.specs.Reading.{on_line, read_from}
use Rattle.report.specs.Rows.{items_from}
use Rattle.sheet_length.specs.Measured.{layout_first, rule2, measured}
use Rattle.credits.specs.Credits.{credit_of, after_credit, credit_above}
use Rattle.sheet_blocks.specs.Blocks.{blocks_to, dividend_barred}
use Rattle.judgement.specs.Sheet.{sheet_of}
use Rattle.judgement.specs.Judgement.{rule13, rule17, rule16, rule12, rule_lines, judgement}
use Rattle.text_answer.specs.Lent.{lent}
use Rattle.sheet_answer.specs.Judged.{text_of, judged_call}
use Rattle.sheet_call.specs.Call.{block_rows_of}
use Rattle.dummies.specs.Dummies.{are_bytes}
use Rattle.dummies.specs.Answers.{Answered, empty, guaranteed, two_blocks, another_second}

pub record Table : Type 0 where
  pub no_block : Answered empty
  pub guarantee_alone : Answered guaranteed
  pub two : Answered two_blocks
  pub another : Answered another_second

pub computed : Table
unfolding
    pick least_from ascending digits field digit_or_space leading_digits decimal factors sum A U LT Vh y ys Q4 largest_of largest root fine_i a fine_d
    reported I D requirement K figures_of total volume growth operational_numerator RO sum_k available bracket buffer key line_in rows_in equal_bytes
    found_in found_at is_code code_among spaced layout_of lettered line.outside line.rule10 line.rule9 line.rule8 line.rule6 line.rule5
    line.parse_line has_key lookup exists pairs block_by volumes_by key_of rule19 rule11 on_line read_from items_from twice_radicand aggregated
    diversification_credit lowered credit_of after_credit blocks_to sheet_of any_to credit_above sum_to dividend_barred rule13 rule17 rule16 rule12
    rule_lines layout_first rule2 measured judgement block_rows_of lent text_of judged_call are_bytes
computed = record { no_block = refl; guarantee_alone = refl; two = refl; another = refl }
