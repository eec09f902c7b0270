-- After k pairs the sum is what they are charged, and the pairs of all territories are charged less than a word. Assumes nothing.
use Rattle.basics.proofs.Common.{◌≡◌, ℕ, ◌+◌, ◌-◌, ◌*◌, ◌/◌, ◌≤◌, length, sym, ap, ◌∙◌, arith}
use Rattle.sizes.specs.Sizes.{volume_pairs}
use Rattle.guideline.specs.Operational.{current, prior, charged}
use Rattle.guideline.proofs.Charges.{charged_none, charged_all, charged_more, charged_fits, factor_most}
use Rattle.operational.proofs.volume_and_growth.Goals.{After-charge-sum}
use Rattle.operational.proofs.volume_and_growth.Goals as goal

pub loop-k-init : goal.loop-k-init
loop-k-init c = sym (charged_none _)

pub charge-sum-requires : goal.charge-sum-requires
charge-sum-requires c =
    let most = c.requires.within_limit in
    let k = c.loop-k.k in
    (rw c.volume_factor.ensures (factor_most k), most.0 k, most.1 k)

-- the sum with this pair's charge is that of one pair more
grown : (c : After-charge-sum) →
    c.loop-k.sum + c.charge-sum.result ≡ charged c.args.volumes.now (c.loop-k.k + 1)
grown c =
    let v = c.args.volumes.now in
    let k = c.loop-k.k in
    let e = c.charge-sum.ensures ∙ ap (λ (x : ℕ). x * (5 * current v k + (5 * current v k - 6 * prior v k))) c.volume_factor.ensures in
    omega (arith, c.loop-k.invariant, e, charged_more v k)

pub overflow_add-sum : goal.overflow_add-sum
overflow_add-sum c =
    let l = c.loop-k in
    let k : l.k + 1 ≤ volume_pairs = omega (arith, c.requires.most_volumes, c.loop-k-test.true) in
    omega (arith, grown c, charged_fits c.args.volumes.now c.requires.within_limit.0 (l.k + 1) k)

pub loop-k-preserved : goal.loop-k-preserved
loop-k-preserved c = grown c

pub returns : goal.returns
returns c =
    let v = c.args.volumes.now in
    let e : c.loop-k.k ≡ length v / 2 = omega (arith, c.loop-k-test.false) in
    c.loop-k.invariant ∙ ap (charged v) e ∙ charged_all v
