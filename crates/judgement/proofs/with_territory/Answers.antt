-- Whenever the loop's test is reached, the first i classes of the territory are charged too. Assumes nothing.
use Rattle.basics.proofs.Common.{◌≡◌, ◌+◌, ◌*◌, refl, ap, ◌∙◌, arith, props}
use Rattle.sizes.specs.Sizes.{volume_classes}
use Rattle.guideline.specs.Operational.{charged}
use Rattle.ledger.specs.Numbers.{volumes_of}
use Rattle.ledger.proofs.Tables.{of_lines}
use Rattle.judgement.proofs.VolumeCharges.{volume_key, within, one_charged, none_charged, charged_small}
use Rattle.judgement.proofs.with_territory.Goals.{then-volume-gt0, else-volume-gt0}
use Rattle.judgement.proofs.with_territory.Goals as goal

pub loop-i-init : goal.loop-i-init
loop-i-init c es H =
    let e : volume_classes * c.args.before ≡ volume_classes * c.args.before + 0 = omega arith in
    c.requires.before es H ∙ ap (charged (volumes_of es)) e

pub volume-volume-requires : goal.volume-volume-requires
volume-volume-requires c = volume_key _ _ c.requires.in_range c.loop-i-test.true

pub charge-sum-requires : goal.charge-sum-requires
charge-sum-requires c =
    of_lines c.args.ledger.now (hlevel props)
    (λ es H. within H c.requires.in_range c.loop-i-test.true c.volume_factor.ensures c.volume-volume.ensures.first c.volume-volume.ensures.second)

pub overflow_add-sum : goal.overflow_add-sum
overflow_add-sum c =
    of_lines c.args.ledger.now (hlevel props)
    (λ es H.
    let v = c.volume-volume.ensures in
    let e = one_charged H c.requires.in_range c.loop-i-test.true c.volume_factor.ensures v.first v.second _ _ (c.loop-i.invariant es H) c.charge-sum.ensures in
    omega (arith, e, charged_small H c.requires.in_range c.loop-i-test.true))

pub loop-i-preserved : goal.loop-i-preserved
loop-i-preserved c es H =
    let v = c.volume-volume.ensures in
    let h = c.requires.in_range in
    let l = c.loop-i-test.true in
    elim c.if-volume-gt0.branch [
      | then-volume-gt0 w ↦ w.sum-is ∙ one_charged H h l w.volume_factor.ensures v.first v.second _ _ (c.loop-i.invariant es H) w.charge-sum.ensures
      | else-volume-gt0 w ↦ w.sum-is ∙ none_charged H h l refl v.first v.second _ (c.loop-i.invariant es H) (omega (arith, w.if-volume-gt0.false))
    ]

pub returns : goal.returns
returns c es H =
    let e : volume_classes * c.args.before + c.loop-i.i ≡ volume_classes * (c.args.before + 1) = omega (arith, c.loop-i.auto.i-end, c.loop-i-test.false) in
    c.loop-i.invariant es H ∙ ap (charged (volumes_of es)) e
