-- A negative margin, a sum of zero, or neither: then the shares. Assumes nothing.
use Rattle.basics.proofs.Common.{◌≡◌, sym, arith}
use Rattle.guideline.specs.Block.{K}
use Rattle.figures.specs.Parts.{figures_are}
use Rattle.shares.proofs.Rules.{some_negative, all_zero_lem, shareable, answered}
use Rattle.shares.proofs.shares_of.Goals.{After-figures_of-k}
use Rattle.shares.proofs.shares_of.Goals as goal

k_is : (c : After-figures_of-k) → c.figures_of-k.result.k ≡ K c.args.b.now.numbers
k_is c = (figures_are _ _ c.figures_of-k.ensures).4

pub margins_of-requires : goal.margins_of-requires
margins_of-requires c = k_is (goal.at.margins_of-requires c).After-figures_of-k

pub returns-in_default : goal.returns-in_default
returns-in_default c = sym (some_negative _ c.in_default.ensures)

pub returns-then-sum-eq0 : goal.returns-then-sum-eq0
returns-then-sum-eq0 c = sym (all_zero_lem _ _ _ c.in-Some.ensures (omega (arith, c.if-sum-eq0.true)))

pub shared_out-requires : goal.shared_out-requires
shared_out-requires c =
    shareable _ _ _ c.in-Some.ensures _ (k_is (goal.at.shared_out-requires c).After-figures_of-k) c.if-sum-eq0.false c.args.b.now.accepted

pub returns : goal.returns
returns c =
    answered _ _ _ c.in-Some.ensures _ (k_is (goal.at.returns c).After-figures_of-k) c.if-sum-eq0.false _ c.shared_out.ensures
