-- Whatever radicand stands in the first window, after step j the held value is the root of its leading 2j digits (`After`). After
-- the last step these are all its digits, and the root is rounded up by what is left. Assumes nothing.
use Rattle.basics.proofs.Common.{◌≡◌, ℕ, ◌+◌, ◌*◌, ◌^◌, ◌<◌, ◌≤◌, sym, ◌∙◌, arith}
use Rattle.wide.specs.Value.{value}
use Rattle.root.specs.Steps.{steps, After, Aligned}
use Rattle.root.proofs.Roots.{small, window_small, at_start, root_small, exact_root, next_root, root_of_none}
use Rattle.root.proofs.root_and_steps.Goals.{After-aligned-window, After-loop-j, At-loop-j, In-loop-j}
use Rattle.root.proofs.root_and_steps.Goals as goal

pub returns-then-count-eq0 : goal.returns-then-count-eq0
returns-then-count-eq0 c =
    let e = c.count_steps-count.ensures in
    let z : steps (value c.args.n) ≡ 0 = omega (arith, c.if-count-eq0.true) in
    (root_of_none _ z, omega arith)

-- n stands two binary digits below the top of the first window
aligned_at : (c : After-aligned-window) →
    Aligned (value c.args.n) c.count_steps-count.result (value c.aligned-window.result)
aligned_at c =
    record { count_is = c.count_steps-count.ensures; at_top = c.aligned-window.ensures; fits = c.requires }

pub loop-j-init : goal.loop-j-init
loop-j-init c = λ n a. at_start n a.fits _ (rw (sym a.count_is) a.at_top)

-- what is held of n before a step, and after the last
held : (c : At-loop-j) →
    let l = c.loop-j in
    After (value c.args.n) l._j (value l.window) l.root l.rest
held c = c.loop-j.invariant _ (aligned_at (goal.at.At-loop-j c).After-aligned-window)

-- there is a step to go
to_go : (c : In-loop-j) → c.loop-j._j < steps (value c.args.n)
to_go c = omega (arith, c.loop-j-test.true, c.count_steps-count.ensures)

-- the window's upper word has two binary digits free
free : (h l : ℕ) → h * 2 ^ 64 + l < 2 ^ 126 → h < 2 ^ 62
free h l k = omega arith

pub step-held-requires : goal.step-held-requires
unfolding value
step-held-requires c =
    let before = held ((goal.at.step-held-requires c).At-loop-j) in
    let n_fits = c.requires in
    let go = to_go ((goal.at.step-held-requires c).In-loop-j) in
    (small _ n_fits _ _ _ _ before, root_small _ n_fits _ _ _ _ go before, free _ _ (window_small _ n_fits _ _ _ _ before))

-- no step is to go
gone : (c : After-loop-j) → steps (value c.args.n) ≤ c.loop-j._j
gone c = omega (arith, c.loop-j-test.false, c.count_steps-count.ensures)

pub returns-then-rest-eq0 : goal.returns-then-rest-eq0
returns-then-rest-eq0 c =
    let after_loop_j = (goal.at.returns-then-rest-eq0 c).After-loop-j in
    let at_loop_j = (goal.at.returns-then-rest-eq0 c).At-loop-j in
    (exact_root _ c.requires _ _ _ _ (gone after_loop_j) (held at_loop_j) (omega (arith, c.if-rest-eq0.true)), (c.from-steps.ensures ∙ c.count_steps-count.ensures))

pub returns-else-rest-eq0 : goal.returns-else-rest-eq0
returns-else-rest-eq0 c =
    let after_loop_j = (goal.at.returns-else-rest-eq0 c).After-loop-j in
    let at_loop_j = (goal.at.returns-else-rest-eq0 c).At-loop-j in
    (next_root _ c.requires _ _ _ _ (gone after_loop_j) (held at_loop_j) (omega (arith, c.if-rest-eq0.false)), (c.from-steps.ensures ∙ c.count_steps-count.ensures))
