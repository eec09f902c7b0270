-- Whenever the loop's test is reached, the first i blocks are worked out, and behind their rows the table is as it was. Assumes nothing.
use Rattle.basics.proofs.Common.{refl, ◌∙◌}
use Rattle.sheet_blocks.proofs.WorkedBlocks.{no_block, kept_further}
use Rattle.sheet_blocks.proofs.work_out.Goals as goal

pub loop-i-init : goal.loop-i-init
loop-i-init c = (λ es H. no_block es _, refl)

pub loop-i-preserved : goal.loop-i-preserved
loop-i-preserved c =
    let e = c.work_block-w.ensures in
    (e.worked_out, e.rest_kept.1 ∙ kept_further _ _ e.rest_kept.0 c.loop-i.invariant.1)
