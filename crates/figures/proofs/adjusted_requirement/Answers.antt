-- Where U is 0, K is. Else a tenth of M is the product of two differences, and over V and over 6,000 it is what is added to 8U + LT. Assumes nothing.
use Rattle.basics.proofs.Common.{◌≡◌, ℕ, ◌-◌, ◌*◌, ◌<◌, leb, sym, ap, ◌∙◌, arith, least}
use Rattle.sizes.specs.Sizes.{fineness}
use Rattle.guideline.proofs.Figures.{requirement_none}
use Rattle.wide.specs.Value.{value}
use Rattle.figures.proofs.Numerator.{tenth_of_m, m_fits, requirement_is}
use Rattle.figures.proofs.adjusted_requirement.Goals.{Else-u-eq0, After-product-tenth_of_m}
use Rattle.figures.proofs.adjusted_requirement.Goals as goal

pub returns-then-u-eq0 : goal.returns-then-u-eq0
returns-then-u-eq0 c = sym (requirement_none _ _ _ _ c.if-u-eq0.true)

-- the product
product : (c : After-product-tenth_of_m) → value c.product-tenth_of_m.result ≡ tenth_of_m (2 * c.args.u - c.args.lt) c.args.d
product c =
    let a = c.args in
    c.product-tenth_of_m.ensures ∙ ap (λ (x : ℕ). (3 * a.d - fineness * (2 * a.u - a.lt)) * x) c.excess.ensures

positive : (c : Else-u-eq0) → 0 < c.args.u
positive c = omega (arith, c.if-u-eq0.false)

pub divide_up-requires : goal.divide_up-requires
divide_up-requires c =
    let a = c.args in
    let some = positive (goal.at.divide_up-requires c).Else-u-eq0 in
    let m = product (goal.at.divide_up-requires c).After-product-tenth_of_m in
    let s = c.requires in
    omega (arith, some, m, s.within, s.small, m_fits a.u a.lt a.d s)

pub returns : goal.returns
returns c =
    let a = c.args in
    let v : ℕ = 2 * a.u - a.lt in
    let some = positive (goal.at.returns c).Else-u-eq0 in
    let m = product (goal.at.returns c).After-product-tenth_of_m in
    let t = c.div_ceil-tenths.ensures in
    let k = c.div_ceil.ensures in
    requirement_is a.u a.lt a.d c.requires some c.divide_up.result c.div_ceil-tenths.result
    (c.divide_up.ensures ∙ (λ i. least (λ q. leb (m i) (v * q)))) (omega (arith, t)) (omega (arith, t)) c.div_ceil.result (omega (arith, k)) (omega (arith, k))
