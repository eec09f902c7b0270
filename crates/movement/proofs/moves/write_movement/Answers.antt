-- The raise passes the limit, or the raised block is accepted and its K is told beside k. Assumes nothing.
use Rattle.basics.proofs.Common.{ap, ◌∙◌, arith}
use Rattle.sizes.specs.Sizes.{number_columns}
use Rattle.guideline.specs.Block.{K}
use Rattle.figures.specs.Parts.{figures_are}
use Rattle.report_line.proofs.LineBytes.{in_columns}
use Rattle.movement.proofs.Lines.{refused_line, within, moved_line}
use Rattle.movement.proofs.moves.write_movement.Goals as goal

pub returns-then-component-raise : goal.returns-then-component-raise
returns-then-component-raise c =
    in_columns number_columns c.args.out.now _ _ _ _ c.requires.3 c.write_refusal.ensures
    ∙ refused_line _ _ _ c.ir-component.ensures (omega (arith, c.if-component-raise.true))

pub raised-requires : goal.raised-requires
raised-requires c =
    (c.requires.0, c.requires.2, within _ _ _ c.ir-component.ensures c.args.block.now.accepted c.requires.2 (omega (arith, c.if-component-raise.false)))

pub returns : goal.returns
returns c =
    let k = (figures_are _ _ c.figures_of-figures.ensures).4 ∙ ap K c.raised.ensures in
    let w = moved_line _ _ _ c.ir-component.ensures c.args.block.now.accepted c.requires.2 (omega (arith, c.if-component-raise.false)) c.requires.1 k in
    rw c.word.ensures at c.write_signed.ensures ∙ w
