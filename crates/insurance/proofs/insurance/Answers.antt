-- The sum over all pairs of the y(i) is four times Q, and 2,500 of it 10,000 × Q. With the largest y(i) as its floor and 2 × PC the root of that is
-- I, and none of it passes a word, since I is at most V. Assumes nothing.
use Rattle.basics.proofs.Common.{◌≡◌, ℕ, ◌+◌, ◌*◌, ◌≤◌, max, List, sym, ap, ◌∙◌, subst, arith}
use Rattle.sizes.specs.Sizes.{fineness}
use Rattle.guideline.specs.Block.{largest_of, largest, root, fine_i}
use Rattle.wide.specs.Value.{value}
use Rattle.root.specs.Steps.{steps}
use Rattle.correlation.specs.Products.{SmallYs}
use Rattle.insurance.specs.Radicand.{radicand_i}
use Rattle.insurance.proofs.Radicand.{largest_radicand, in_root, radicand_found, root_found, ys_fit, radicand_small, product_fits, floor_found, floor_room}
use Rattle.insurance.proofs.insurance.Goals.{After-root_and_steps-found, After-mul}
use Rattle.insurance.proofs.insurance.Goals as goal

pub correlated-sum-requires : goal.correlated-sum-requires
correlated-sum-requires c = subst (λ (l : List ℕ). SmallYs l) (sym c.half_cents-y.ensures) (ys_fit _ c.args.b.now.accepted)

pub mul-requires : goal.mul-requires
mul-requires c =
    product_fits _ c.args.b.now.accepted _ _ c.half_cents-y.ensures c.correlated-sum.ensures

-- 10,000 × Q
radicand : (c : After-mul) → value c.mul.result ≡ radicand_i c.args.b.now.numbers
radicand c =
    radicand_found _ _ _ _ c.half_cents-y.ensures c.correlated-sum.ensures c.mul.ensures

pub root_and_steps-found-requires : goal.root_and_steps-found-requires
root_and_steps-found-requires c =
    let h : value c.mul.result ≤ largest_radicand = omega (arith, radicand c, radicand_small _ c.args.b.now.accepted) in
    in_root _ h

rooted : (c : After-root_and_steps-found) → c.root_and_steps-found.result.root ≡ root c.args.b.now.numbers
rooted c = root_found _ _ _ (radicand (goal.at.After-root_and_steps-found c).After-mul) c.root_and_steps-found.ensures.0

-- the larger of the root and the largest y(i), as the block has them
floor : (c : After-root_and_steps-found) →
    let b = c.args.b.now.numbers in
    max c.root_and_steps-found.result.root (fineness * largest_of c.half_cents-y.result) ≡ max (root b) (fineness * largest b)
floor c = floor_found _ c.args.b.now.accepted _ _ c.half_cents-y.ensures (rooted c)

pub floor_then_pc-requires : goal.floor_then_pc-requires
floor_then_pc-requires c =
    omega (arith, floor (goal.at.floor_then_pc-requires c).After-root_and_steps-found, floor_room _ c.args.b.now.accepted)

pub returns : goal.returns
unfolding fine_i
returns c = (
  c.floor_then_pc.ensures ∙ (λ j. floor (goal.at.returns c).After-root_and_steps-found j + fineness * (2 * c.pc.ensures j)),
  c.root_and_steps-found.ensures.1 ∙ ap steps (radicand (goal.at.returns c).After-mul),
)
