-- The two labels are put back where they were lent, and the stores put a space and the line feed behind them. Assumes nothing.
use Rattle.needs_line.proofs.LineBytes.{listed_filled}
use Rattle.needs_line.proofs.write_listed.Goals as goal

pub returns : goal.returns
returns c =
    listed_filled c.args.out.now _ _ _ _ c.requires c.write_label.ensures c.write_label-2.ensures
