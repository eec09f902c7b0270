-- Whenever the loop's test is reached, the ledger holds the entries of the i lines before, last is the key of the last one, and what is left to
-- read gives what all lines give. Assumes nothing.
use Rattle.std.proofs.Common.{◌≡◌, ap, ◌∙◌, arith}
use Rattle.layout.specs.Whole.{line_at}
use Rattle.layout.proofs.WholeLines.{count_lines, within, line_is}
use Rattle.sheet_line.specs.Rules.{parse_line}
use Rattle.sheet_reader.proofs.FilledLedger.{line_sound, entry_good, turned, again, done}
use Rattle.sheet_reader.proofs.read_lines.Goals.{After-read_line-read}
use Rattle.sheet_reader.proofs.read_lines.Goals as goal

read : (c : After-read_line-read) → c.read_line-read.result ≡ parse_line (line_at c.args.sheet.now c.loop-i.i)
read c = c.read_line-read.ensures ∙ ap parse_line (line_is _ c.as_chunks.ensures.front c.loop-i-test.true _)

pub admit-line-requires : goal.admit-line-requires
admit-line-requires c =
    let p = (goal.at.admit-line-requires c).After-read_line-read in
    rw (← read p) at (line_sound c.args.sheet.now _ (within _ c.as_chunks.ensures.front c.loop-i-test.true))

pub returns-in-Err : goal.returns-in-Err
returns-in-Err c =
    let p = (goal.at.returns-in-Err c).After-read_line-read in
    turned c.loop-i.invariant (within _ c.as_chunks.ensures.front c.loop-i-test.true) (rw (read p) at c.admit-line.ensures) c.in-Err.is

pub key_of-last-requires : goal.key_of-last-requires
key_of-last-requires c =
    let p = (goal.at.key_of-last-requires c).After-read_line-read in
    (entry_good c.loop-i.invariant (within _ c.as_chunks.ensures.front c.loop-i-test.true) (rw (read p) at c.admit-line.ensures) c.in-Ok.is).key

pub loop-i-preserved : goal.loop-i-preserved
loop-i-preserved c =
    let p = (goal.at.loop-i-preserved c).After-read_line-read in
    again c.loop-i.invariant (within _ c.as_chunks.ensures.front c.loop-i-test.true) (rw (read p) at c.admit-line.ensures) c.in-Ok.is
    c.key_of-last.ensures

pub returns : goal.returns
returns c =
    let n = count_lines _ c.as_chunks.ensures.front in
    rw n (done c.loop-i.invariant (omega (arith, c.loop-i-test.false, n)))
