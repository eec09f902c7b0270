-- The window's next two digits are brought down, and the law of one step says what is held then. Assumes nothing.
use Rattle.basics.proofs.Common.{◌≡◌, ◌+◌, ◌*◌, ◌^◌, ◌<◌, arith, digits_lt}
use Rattle.wide.specs.Value.{value}
use Rattle.root.proofs.Roots.{step}
use Rattle.root.proofs.step.Goals.{After-bring_down-moved}
use Rattle.root.proofs.step.Goals as goal

-- the two upper digits of the window stay free
window_fits : (c : After-bring_down-moved) → value c.bring_down-moved.result < 2 ^ 126
unfolding value
window_fits c =
    let l : c.bring_down-moved.result.low < 2 ^ 64 = omega (arith, c.bring_down-moved.type_inv) in
    digits_lt {m = 2 ^ 62} {c = 2 ^ 64} c.bring_down-moved.ensures.free l

pub returns : goal.returns
returns c =
    let e = c.root_step-longer.ensures in
    let fits = window_fits ((goal.at.returns c).After-bring_down-moved) in
    let down : value c.bring_down-moved.result + c.top_digits-digits.result * 2 ^ 126 ≡ 4 * value c.args.window =
    omega (arith, c.top_digits-digits.ensures.0, c.bring_down-moved.ensures.moved) in
    λ n j small go a. step n small j _ _ _ _ _ _ _ go a fits down e.value.0 e.value.1
