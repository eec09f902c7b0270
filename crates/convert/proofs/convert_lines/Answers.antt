-- The lines that were tested tell which arm it is: refused, no room, or written. Assumes nothing.
use Rattle.basics.proofs.Common.{sym, refl, ap, ◌∙◌, arith, err_from_is_err_and}
use Rattle.refusal.specs.Outcome.{stated_number}
use Rattle.places.specs.Marks.{marks_of}
use Rattle.convert.proofs.Calls.{lines_turned, lines_short, lines_written}
use Rattle.convert.proofs.convert_lines.Goals as goal

pub test_lines-requires : goal.test_lines-requires
unfolding marks_of
test_lines-requires c = refl

pub returns-in_err-test_lines : goal.returns-in_err-test_lines
returns-in_err-test_lines c =
    let p = err_from_is_err_and c.from_residual.result c.from_residual.ensures.1 in
    rw (p.1, p.2)
    (lines_turned c.args.scale c.args.sheet.now c.args.room.now (sym (ap stated_number c.in_err-test_lines.was) ∙ c.test_lines.ensures))

pub returns-then-room-sheet : goal.returns-then-room-sheet
returns-then-room-sheet c =
    lines_short c.args.scale c.args.sheet.now c.args.room.now (sym (ap stated_number c.in_ok-test_lines.was) ∙ c.test_lines.ensures) c.requires
    (omega (arith, c.if-room-sheet.true))

pub returns : goal.returns
returns c =
    let tested = sym (ap stated_number c.in_ok-test_lines.was) ∙ c.test_lines.ensures in
    lines_written c.args.scale c.args.sheet.now c.args.room.now tested c.requires (omega (arith, c.if-room-sheet.false)) c.write_lines.ensures
