-- A sheet that its length turns away is refused; any other is what its lines give, and what was written converts back. Assumes nothing.
use Rattle.basics.proofs.Common.{sym, ap, ◌∙◌, err_from_is_err_and}
use Rattle.convert.specs.Steps.{lines_call}
use Rattle.scaled_line.specs.declared.Scale.{Scale}
use Rattle.convert.proofs.Calls.{whole_lines_lem, call_turned, call_lines, promised}
use Rattle.convert.proofs.convert_call.Goals as goal

pub convert_lines-requires : goal.convert_lines-requires
convert_lines-requires c = whole_lines_lem c.args.sheet.now (sym c.measure.ensures ∙ c.in_ok-measure.was)

pub returns-in_err-measure : goal.returns-in_err-measure
returns-in_err-measure c =
    let p = err_from_is_err_and c.from_residual.result c.from_residual.ensures.1 in
    rw (p.1, p.2) (promised _ _ _ (call_turned c.args.sheet.now _ (sym c.measure.ensures ∙ c.in_err-measure.was)))

pub returns : goal.returns
returns c =
    let sheet = c.args.sheet.now in
    let room = c.args.room.now in
    promised _ _ _
    (c.convert_lines.ensures ∙ ap (λ (d : Scale). lines_call d sheet room) c.scale_of.ensures
    ∙ call_lines sheet room (sym c.measure.ensures ∙ c.in_ok-measure.was))
