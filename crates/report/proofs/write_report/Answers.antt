-- The blocks' lines stand in front, and the stretch behind them gets the totals. Assumes nothing.
use Rattle.report.proofs.Tables.{closed}
use Rattle.report.proofs.write_report.Goals as goal

pub returns : goal.returns
returns c =
    closed c.args.rows.now c.args.totals.now c.told-totals _ _ c.write_blocks.auto.report c.requires.1 c.write_blocks.ensures
    c.write_items.ensures
