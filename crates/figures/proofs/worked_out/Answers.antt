-- Each figure is found from those before it: I from the block, D from A and I, U and LT from the block, K from U, LT and D, whose bounds hold of every
-- accepted block; I and D are then rounded up to half cents. Assumes nothing.
use Rattle.basics.proofs.Common.{◌≡◌, [], ◌∷◌, ap, ◌∙◌, arith}
use Rattle.guideline.specs.Block.{fine_d, figures_of}
use Rattle.root.specs.Steps.{steps}
use Rattle.figures.specs.RootSteps.{steps_of}
use Rattle.figures.proofs.JointRadicand.{joint_fits, joint_found, joint_radicand, fine_fit, i_found, d_found}
use Rattle.figures.proofs.Numerator.{bounded, adjusted_found}
use Rattle.figures.proofs.worked_out.Goals.{After-diversified-joint}
use Rattle.figures.proofs.worked_out.Goals as goal

pub diversified-joint-requires : goal.diversified-joint-requires
diversified-joint-requires c =
    omega (arith, c.insurance-insurance.ensures.0, c.credit_and_market.ensures.0, joint_fits _ c.args.b.now.accepted)

-- D, from what was found of I
joined : (c : After-diversified-joint) → c.diversified-joint.result.root ≡ fine_d c.args.b.now.numbers
joined c =
    joint_found _ _ _ _ c.credit_and_market.ensures.0 c.insurance-insurance.ensures.0 c.diversified-joint.ensures.0

pub adjusted_requirement-k-requires : goal.adjusted_requirement-k-requires
adjusted_requirement-k-requires c =
    bounded _ c.args.b.now.accepted _ _ _ c.undiversified-u.ensures c.level_and_trend-lt.ensures (joined (goal.at.adjusted_requirement-k-requires c).After-diversified-joint)

pub in_half_cents-requires : goal.in_half_cents-requires
in_half_cents-requires c =
    omega (arith, c.insurance-insurance.ensures.0, (fine_fit _ c.args.b.now.accepted).0)

pub in_half_cents-requires-2 : goal.in_half_cents-requires-2
in_half_cents-requires-2 c =
    omega (arith, joined (goal.at.in_half_cents-requires-2 c).After-diversified-joint, (fine_fit _ c.args.b.now.accepted).1)

pub returns : goal.returns
unfolding figures_of steps_of
returns c =
    let diversified_joint = (goal.at.returns c).After-diversified-joint in
    let u = c.undiversified-u.ensures in
    let t = c.level_and_trend-lt.ensures in
    let k = adjusted_found _ _ _ _ _ u t (joined diversified_joint) c.adjusted_requirement-k.ensures in
    let i = c.insurance-insurance.ensures in
    let h = i_found _ _ _ i.0 c.in_half_cents.ensures in
    let e = d_found _ _ _ (joined diversified_joint) c.in_half_cents-2.ensures in (
      (λ j. h j ∷ e j ∷ u j ∷ t j ∷ k j ∷ []),
      λ j. i.1 j ∷ (c.diversified-joint.ensures.1 ∙ ap steps (joint_radicand _ _ _ c.credit_and_market.ensures.0 i.0)) j ∷ [],
    )
