-- What judging tells is the buffer or the refusal. Assumes nothing.
use Rattle.basics.proofs.Common.{rules}
use Rattle.quarter_sheet.proofs.Buffers.{buffer_stated}
use Rattle.quarter_sheet.proofs.buffer_of.Goals as goal

pub returns : goal.returns
returns c = search (rules, buffer_stated c.args.sheet.now c.judge.result _ c.judge.ensures.findings)
