-- Of no bytes there is no sheet, closed or not; the rooms are as long as the paper's numbers ask. Assumes nothing.
use Rattle.basics.proofs.Common.{arith}
use Rattle.quarter.proofs.SheetsSoFar.{at_start}
use Rattle.quarter.proofs.start.Goals as goal

pub returns : goal.returns
returns c room out l m = at_start room out _ (omega (arith, l)) (omega (arith, m)) c.new_sheet.ensures c.no_sheets.ensures
