-- The quotient and what its rest adds make the radicand; it is at most the square of 2 × 10^15, so that two words and the root hold it.
-- Assumes nothing.
use Rattle.basics.proofs.Common.{◌≡◌, ℕ, ◌+◌, ◌*◌, ◌<◌, ◌≤◌, leb, ◌∙◌, arith, least}
use Rattle.wide.specs.Value.{value}
use Rattle.fluctuation.specs.Result.{scale}
use Rattle.fluctuation.specs.Parts.{most_twentieths}
use Rattle.fluctuation.proofs.Radicand.{radicand, radicand_within, root_same}
use Rattle.fluctuation.proofs.over_any_root.Goals.{After-divide_up-part, After-from}
use Rattle.fluctuation.proofs.over_any_root.Goals as goal

-- the quotient and the rest of c², and what the rest adds
module _ (c : After-divide_up-part) where
  small : c.divide-by.result.rest < c.args.base
  small = c.divide-by.ensures.0

  whole : value c.divide-by.result.quotient * c.args.base + c.divide-by.result.rest
      ≡ c.args.c * c.args.c
  whole = c.divide-by.ensures.1 ∙ c.product.ensures

  part_is : c.divide_up-part.result ≡ least (λ x. leb (scale * c.divide-by.result.rest) (c.args.base * x))
  part_is = c.divide_up-part.ensures ∙ (λ i. least (λ x. leb (c.product-2.ensures i) (c.args.base * x)))

  abbrev own_radicand : ℕ
  own_radicand = radicand _ _ _ _ _ small whole part_is

  radicand_small : own_radicand ≤ most_twentieths * most_twentieths
  radicand_small = radicand_within _ _ _ _ _ small whole part_is _ c.requires.within

-- the sum is the radicand
sum_is : (c : After-from) → value c.mul.result + value c.from.result ≡ own_radicand (goal.at.After-from c).After-divide_up-part
sum_is c = omega (arith, c.mul.ensures, c.from.ensures)

pub returns : goal.returns
returns c =
    let e = c.add.ensures ∙ sum_is (goal.at.returns c).After-from in
    let d = (goal.at.returns c).After-divide_up-part in
    c.root_up.ensures ∙ (λ i. least (λ x. leb (e i) (x * x))) ∙ root_same _ _ _ _ _ (small d) (whole d) (part_is d)
