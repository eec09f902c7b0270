-- The numbers one by one are the block's, and the component within the limit, the block is accepted with it. Assumes nothing.
use Rattle.basics.proofs.Common.{◌≡◌, ℕ, suc, ◌+◌, ◌*◌, List, length, get_or, set, sym, ap, ◌∙◌, subst, arith}
use Rattle.sizes.specs.Sizes.{block_numbers}
use Rattle.guideline.specs.Block.{AcceptedBlock}
use Rattle.guideline.proofs.Numbers.{numbers_from, numbers_left}
use Rattle.sensitivity.specs.Movement.{raised}
use Rattle.sensitivity.proofs.Movement.{raised_accepted}
use Rattle.movement.proofs.Lines.{place, raised_is}
use Rattle.movement.proofs.moves.raised.Goals.{After-numbers}
use Rattle.movement.proofs.moves.raised.Goals as goal

whole : (c : After-numbers) → numbers_from c.numbers.result.now 0 block_numbers ≡ c.args.block.now.numbers
whole c =
    let e = c.numbers.ensures in
    numbers_left c.numbers.result.now 0 block_numbers (sym c.requires.0 ∙ ap length (sym e)) ∙ e

made : (c : After-numbers) →
    let n = numbers_from c.numbers.result.now 0 block_numbers in
    set n (2 * c.args.i) (get_or n (2 * c.args.i) 0 + c.args.raise) ≡ raised c.args.block.now.numbers (suc c.args.i) c.args.raise
made c = (λ j. set (whole c j) (2 * c.args.i) (get_or (whole c j) (2 * c.args.i) 0 + c.args.raise)) ∙ raised_is _ _ _

pub overflow_add-numbers : goal.overflow_add-numbers
unfolding numbers_from
overflow_add-numbers c =
    let i = c.args.i in
    let e = ap (λ (l : List ℕ). get_or l (2 * i) 0) (whole (goal.at.overflow_add-numbers c).After-numbers) in
    let w = c.requires.2 in
    record { fits = omega (arith, e, rw (place i) at w) }

pub new-requires : goal.new-requires
unfolding numbers_from
new-requires c =
    let r = c.requires in
    subst AcceptedBlock (sym (made (goal.at.new-requires c).After-numbers))
    (raised_accepted _ r.0 c.args.raise (suc c.args.i) (omega arith) (omega arith) c.args.block.now.accepted r.2)

pub returns : goal.returns
unfolding numbers_from
returns c = c.new.ensures ∙ made (goal.at.returns c).After-numbers
