-- Whenever the loop's test is reached, the first bytes stand in front of the room; a last one without a second is stored behind the loop.
-- Assumes nothing.
use Rattle.basics.proofs.Common.{◌≡◌, ℕ, ◌+◌, ◌-◌, ◌*◌, ◌<◌, ◌≤◌, List, ◌++◌, length, take, drop, set, get_or, ◌∙◌, add-one, arith, Wrote, nothing, next}
use Rattle.std.proofs.Math.Seq.{take-suc, take-length}
use Rattle.quarter.proofs.copy_text.Goals as goal

module _ (t r₀ r : List ℕ) (k : ℕ) (w : Wrote r₀ k (take k t) r) where
  -- the next byte too
  more : k < length t → length t ≤ length r₀ → Wrote r₀ (k + 1) (take (k + 1) t) (set r k (get_or t k 0))
  more h l = rw (add-one, take-suc t k 0 h) (next w (get_or t k 0) (omega arith))

  -- all of them
  whole : k ≡ length t → r ≡ t ++ drop (length t) r₀
  whole h = rw (h, take-length) at w.text

pub loop-i-init : goal.loop-i-init
loop-i-init c = nothing _

pub loop-i-preserved : goal.loop-i-preserved
loop-i-preserved c =
    let i = c.loop-i.i in
    let h = c.loop-i-test.true in
    let e : 2 * (i + 1) ≡ 2 * i + 1 + 1 = omega arith in
    rw e (more _ _ _ (2 * i + 1) (more _ _ _ (2 * i) c.loop-i.invariant (omega (arith, h)) c.requires) (omega (arith, h)) c.requires)

pub returns-then-text-eq1 : goal.returns-then-text-eq1
returns-then-text-eq1 c =
    let t = c.args.text.now in
    let i = c.loop-i.i in
    let e : length t ≡ 2 * i + 1 = omega (arith, c.loop-i-test.false, c.loop-i.auto.i-end, c.if-text-eq1.true) in
    let last : length t - 1 ≡ 2 * i = omega (arith, e) in
    (λ j. set c.loop-i.room (last j) (get_or t (last j) 0))
    ∙ whole t _ _ (2 * i + 1) (more t _ _ (2 * i) c.loop-i.invariant (omega (arith, e)) c.requires) (omega (arith, e))

pub returns-else-text-eq1 : goal.returns-else-text-eq1
returns-else-text-eq1 c =
    whole _ _ _ _ c.loop-i.invariant (omega (arith, c.loop-i-test.false, c.loop-i.auto.i-end, c.if-text-eq1.false))
