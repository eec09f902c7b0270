-- The numbers one by one are the whole. Assumes nothing.
use Rattle.basics.proofs.Common.{rules}
use Rattle.sizes.specs.Sizes.{block_numbers}
use Rattle.guideline.proofs.Numbers.{numbers_from, numbers_left}
use Rattle.guideline.proofs.Block.new.Goals as goal

pub returns : goal.returns
unfolding numbers_from
returns c = numbers_left c.args.numbers 0 block_numbers (search rules)
