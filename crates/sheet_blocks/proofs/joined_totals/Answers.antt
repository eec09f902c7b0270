-- Each number is the sum of two, and one of the two is barred where either is. Assumes nothing.
use Rattle.places.proofs.Marks.{or_pick}
use Rattle.sheet_blocks.proofs.WorkedBlocks.{joined_is}
use Rattle.sheet_blocks.proofs.joined_totals.Goals as goal

pub returns : goal.returns
returns c = joined_is c.args.w c.args.more _ (or_pick c.args.w.barred c.args.more.barred)
