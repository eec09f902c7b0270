-- The quotient of the rest and the digits brought down is a digit, for which the quotient so far has room. Assumes nothing.
use Rattle.basics.proofs.Common.{ℕ, ◌+◌, ◌*◌, ◌/◌, ◌%◌, ◌^◌, ◌<◌, ◌≤◌, ap, ◌∙◌, mod-lt, arith, pow_pos}
use Rattle.division.proofs.Quotients.{digit_below, stepped}
use Rattle.division.proofs.divide_step.Goals.{After-divide_word-by}
use Rattle.division.proofs.divide_step.Goals as goal

-- the base is not 0
digit : (c : After-divide_word-by) → c.divide_word-by.result.quotient < c.power_of_two-base.result
digit c =
    let b = c.power_of_two-base in
    digit_below _ _ b.result _ _ _ c.requires.room.0 (mod-lt _ (omega (arith, b.ensures, pow_pos c.args.width))) c.divide_word-by.ensures.1

below : (c : After-divide_word-by) →
    let q = c.args.before.quotient in
    q * c.power_of_two-base.result + c.divide_word-by.result.quotient + 1 ≤ (q + 1) * 2 ^ c.args.width
below c = omega (arith, digit c, ap (λ (x : ℕ). (c.args.before.quotient + 1) * x) c.power_of_two-base.ensures)

pub overflow_add-result : goal.overflow_add-result
overflow_add-result c = omega (arith, below (goal.at.overflow_add-result c).After-divide_word-by, c.requires.room.1)

pub returns-clause-below : goal.returns-clause-below
returns-clause-below c = (c.divide_word-by.ensures.0, below (goal.at.returns-clause-below c).After-divide_word-by)

pub returns-clause-value : goal.returns-clause-value
returns-clause-value c =
    let a = c.args in
    let e = c.power_of_two-base.ensures in
    stepped a.d a.before.quotient _ a.before.rest _ _ _ c.divide_word-by.ensures.1
    ∙ (λ i. (a.before.quotient * a.d + a.before.rest) * e i + a.low / 2 ^ a.left % e i)
