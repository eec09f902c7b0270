-- The upper word is below d, as the quotient fits a word; the quotient is rounded up by its rest. Assumes nothing.
use Rattle.basics.proofs.Common.{◌≡◌, ◌+◌, ◌*◌, arith}
use Rattle.wide.specs.Value.{value}
use Rattle.division.proofs.Quotients.{up_more, up_exact}
use Rattle.division.proofs.divide_up.Goals.{After-divide_lower-by}
use Rattle.division.proofs.divide_up.Goals as goal

whole : (c : After-divide_lower-by) → c.divide_lower-by.result.quotient * c.args.d + c.divide_lower-by.result.rest ≡ value c.args.n
unfolding value
whole c = c.divide_lower-by.ensures.1

pub returns-then-rest-gt0 : goal.returns-then-rest-gt0
returns-then-rest-gt0 c =
    up_more _ _ _ _ (whole (goal.at.returns-then-rest-gt0 c).After-divide_lower-by) c.divide_lower-by.ensures.0 c.requires.2 (omega (arith, c.if-rest-gt0.true))

pub returns-else-rest-gt0 : goal.returns-else-rest-gt0
returns-else-rest-gt0 c =
    up_exact _ _ _ _ (whole (goal.at.returns-else-rest-gt0 c).After-divide_lower-by) c.divide_lower-by.ensures.0 c.requires.2 (omega (arith, c.if-rest-gt0.false))
