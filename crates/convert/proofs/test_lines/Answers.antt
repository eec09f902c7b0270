-- Whenever the loop's test is reached, the lines before have been tested, and what is left to read gives what all lines give. Assumes nothing.
use Rattle.basics.proofs.Common.{◌≡◌, ap, ◌∙◌, arith}
use Rattle.layout.specs.Whole.{line_at}
use Rattle.layout.proofs.WholeLines.{count_lines, within, line_is}
use Rattle.order.proofs.Lines.{line_keyed}
use Rattle.scaled_line.specs.Scale.{parse_in}
use Rattle.convert.proofs.Reading.{reads}
use Rattle.convert.proofs.TwoPasses.{test_done, test_turned, test_key, test_again}
use Rattle.convert.proofs.test_lines.Goals.{After-read-read}
use Rattle.convert.proofs.test_lines.Goals as goal

read : (c : After-read-read) → c.read-read.result ≡ parse_in c.args.scale (line_at c.args.sheet.now c.loop-i.i)
read c = c.read-read.ensures ∙ ap (parse_in c.args.scale) (line_is _ c.as_chunks.ensures.front c.loop-i-test.true _)

pub admit-admitted-requires : goal.admit-admitted-requires
admit-admitted-requires c =
    let p = (goal.at.admit-admitted-requires c).After-read-read in
    rw (← read p) at (line_keyed (reads _) c.loop-i.invariant.read (within _ c.as_chunks.ensures.front c.loop-i-test.true))

pub returns-in-Err : goal.returns-in-Err
returns-in-Err c =
    let p = (goal.at.returns-in-Err c).After-read-read in
    test_turned c.loop-i.invariant (within _ c.as_chunks.ensures.front c.loop-i-test.true) (rw (read p) at c.admit-admitted.ensures)
    c.convertible-line.ensures c.in-Err.is

pub key_of-last-requires : goal.key_of-last-requires
key_of-last-requires c =
    let p = (goal.at.key_of-last-requires c).After-read-read in
    test_key c.loop-i.invariant (within _ c.as_chunks.ensures.front c.loop-i-test.true) (rw (read p) at c.admit-admitted.ensures)
    c.convertible-line.ensures c.in-Ok.is

pub loop-i-preserved : goal.loop-i-preserved
loop-i-preserved c =
    let p = (goal.at.loop-i-preserved c).After-read-read in
    test_again c.loop-i.invariant (within _ c.as_chunks.ensures.front c.loop-i-test.true) (rw (read p) at c.admit-admitted.ensures)
    c.convertible-line.ensures c.in-Ok.is c.key_of-last.ensures

pub returns : goal.returns
returns c =
    let n = count_lines _ c.as_chunks.ensures.front in
    rw n (test_done c.loop-i.invariant (omega (arith, c.loop-i-test.false, n)))
