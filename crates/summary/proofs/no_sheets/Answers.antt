-- With no sheet all are zeros. Assumes nothing.
use Rattle.basics.proofs.Common.{refl}
use Rattle.summary.specs.Summaries.{summary_of}
use Rattle.summary.proofs.no_sheets.Goals as goal

pub returns : goal.returns
unfolding summary_of
returns c = refl
