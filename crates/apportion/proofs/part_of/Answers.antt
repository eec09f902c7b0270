-- The quotient fits a word, so it is its lower word; a quotient and its rest that add up are the definition's. Assumes nothing.
use Rattle.basics.proofs.Common.{◌≡◌, ℕ, ◌/◌, ◌%◌, ap, ◌∙◌, arith}
use Rattle.wide.specs.Value.{value}
use Rattle.division.proofs.Quotients.{quotient_below}
use Rattle.apportion.proofs.Parts.{quotient_is, rest_is, product_fits}
use Rattle.apportion.proofs.part_of.Goals.{After-divide-by}
use Rattle.apportion.proofs.part_of.Goals as goal

-- the quotient is its lower word
one_word : (c : After-divide-by) → c.divide-by.result.quotient.low ≡ value c.divide-by.result.quotient
unfolding value
one_word c =
    let e = c.divide-by.ensures in
    omega (arith, quotient_below _ _ _ _ e.1 e.0 (product_fits _ c.args.k _ _ c.product.ensures (omega arith) c.requires.2))

pub returns : goal.returns
returns c =
    let e = c.divide-by.ensures in
    let p = c.product.ensures in
    let s = c.args in (
      one_word (goal.at.returns c).After-divide-by ∙ quotient_is _ _ _ _ e.1 e.0 ∙ ap (λ (x : ℕ). x / s.sum) p,
      rest_is _ _ _ _ e.1 e.0 ∙ ap (λ (x : ℕ). x % s.sum) p,
    )
