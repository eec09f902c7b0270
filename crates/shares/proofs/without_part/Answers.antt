-- The numbers one by one are the block's; the part is a risk or not, as the definition tests it. Assumes nothing.
use Rattle.basics.proofs.Common.{◌-◌, ◌*◌, set, sym, ◌∙◌, if_lt, if_ge, rules}
use Rattle.sizes.specs.Sizes.{block_numbers}
use Rattle.guideline.proofs.Numbers.{numbers_from, numbers_left}
use Rattle.shares.specs.Margins.{position_of, without}
use Rattle.shares.proofs.without_part.Goals as goal

pub returns-then-part-gt-RISKS : goal.returns-then-part-gt-RISKS
unfolding without numbers_from
returns-then-part-gt-RISKS c =
    let whole = numbers_left c.args.b.now 0 block_numbers (search rules) in
    (λ j. set (whole j) (position_of c.args.part) 0) ∙ sym (if_lt _ c.if-part-gt-RISKS.true)

pub returns : goal.returns
unfolding without numbers_from
returns c =
    let whole = numbers_left c.args.b.now 0 block_numbers (search rules) in
    (λ j. set (set (whole j) (2 * c.args.part - 2) 0) (2 * c.args.part - 1) 0) ∙ sym (if_ge _ c.if-part-gt-RISKS.false)
