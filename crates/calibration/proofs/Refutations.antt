-- No program that halves LT in whole cents, adds PC to a risk's y, leaves it out at the floor, rounds each class up or takes 120 % in whole cents meets
-- the call's contract (roots: NearestRoots; netting: Netting). Each is refuted at an input that the call accepts, where the
-- computed figures differ, or at two: V with LT's half too low at one and with it too high at another; and of 120 % in whole cents, where three cents
-- of prior volume are 3.6, three classes show a rounding down to 3 and one class shows a rounding up to 4.
-- Assumes nothing.
use Rattle.basics.proofs.Common.{◌≡◌, ℕ, suc, ◌-◌, ◌*◌, ◌<◌, ◌≤◌, eqb, List, [], ◌∷◌, length, get_or, refl, ◌∙◌, mul-le-mul_left, arith, dec_le, eqb-false, none_passes, LeastOf, least_of}
use Rattle.refusal.specs.Outcome.{Outcome, Outcome.accepted}
use Rattle.sizes.specs.Sizes.{risks, block_numbers, territory_numbers, ten_thousandths}
use Rattle.guideline.specs.Block.{A, U, LT, y, ys, largest_of, largest}
use Rattle.guideline.specs.Operational.{total, volume}
use Rattle.block.specs.Call.{block_call}
use Rattle.operational.specs.Call.{operational_call}
use Rattle.calibration.specs.Points.{nothing}
use Rattle.calibration.specs.Miscalibrations.{MeetsBlock, GivesFigure, PcInOneRisk, pc_in_risk, PcLeftOut, LTHalvedInY, y_halved, ys_halved, lts, LTHalvedInV, k_lost, MeetsOperational, GivesRO}
use Rattle.calibration.specs.Miscalibrations.{EachRounded, PriorInWholeCents, over_ten_thousand, whole_cents}
use Rattle.calibration.proofs.Computation.{pc_block, floor_block, odd_block, two_cents, three_classes, class_one, computed}

-- I is 445, and another number with PC in a risk
pub pc_in_risk_lem : (call : List ℕ → Outcome) → MeetsBlock call → PcInOneRisk call → ⊥
pc_in_risk_lem call meets wrong =
    let w = wrong pc_block _ refl (meets pc_block refl ∙ computed.pc) in
    let n = none_passes (λ k. eqb (pc_in_risk k pc_block) 445) (suc risks) (omega (arith, computed.pc_in_risk_lem)) w.0 (omega (arith, w.2)) in
    eqb-false (pc_in_risk w.0 pc_block) 445 n (omega (arith, w.3))

-- where the call accepts a block, its value at a place is the computed one and the one that a miscalibration gives
figure :
    (call : List ℕ → Outcome) (at : ℕ) (wrong : List ℕ → ℕ) (b vs : List ℕ) → MeetsBlock call → GivesFigure call at wrong →
    length b ≡ block_numbers → block_call b ≡ accepted vs → get_or vs at 0 ≡ wrong b
figure call at wrong b vs meets gives n e = omega (arith, gives b vs n (meets b n ∙ e))

-- I is 400, and 200 without PC
pub pc_left_out : (call : List ℕ → Outcome) → MeetsBlock call → PcLeftOut call → ⊥
unfolding largest largest_of ys y
pc_left_out call meets wrong =
    omega (arith, wrong floor_block _ refl (meets floor_block refl ∙ computed.floor) (omega (arith, computed.floor_larger)), computed.floor_alone)

-- I of a cent that is all level and trend is 1, and 2 or 0 with LT halved in whole cents
pub lt_halved_in_y : (call : List ℕ → Outcome) → MeetsBlock call → LTHalvedInY call → ⊥
unfolding ys_halved
lt_halved_in_y call meets (half, wrong) =
    let e = figure call 0 _ (odd_block 1 0) _ meets wrong refl computed.cent in
    let none : (i : ℕ) → 2 * (0 - half i 0) ≡ 0 = λ i. omega arith in
    elim (dec_le (half 1 1) 0) [
      | yes h ↦
          let one : y_halved half (odd_block 1 0) 1 ≡ 2 = omega arith in
          omega (arith, rw (one, none 2, none 3, none 4, none 5, none 6, none 7) at e, computed.half_lost)
      | no h ↦
          let one : y_halved half (odd_block 1 0) 1 ≡ 0 = omega arith in
          omega (arith, rw (one, none 2, none 3, none 4, none 5, none 6, none 7) at e, computed.half_more)
    ]

-- K of the one block is 8, and 7 with V a half cent too high; K of the other is 2, and 3 with V a half cent too low
pub lt_halved_in_v : (call : List ℕ → Outcome) → MeetsBlock call → LTHalvedInV call → ⊥
unfolding U LT A
lt_halved_in_v call meets (half, d, whole, keeps, wrong) =
    elim (dec_le (half (lts (odd_block 2 0))) 0) [
      | yes h ↦
          let v : 2 * (8 - half (lts (odd_block 4 4))) ≡ 16 = omega arith in
          let e = figure call 4 _ (odd_block 4 4) _ meets wrong refl computed.v_high in
          omega (arith, rw (v, keeps _ 13 (omega arith) computed.d_high) at e, computed.v_high_lem)
      | no h ↦
          let v : 2 * (2 - half (lts (odd_block 2 0))) ≡ 2 = omega (arith, (whole (odd_block 2 0)).0 refl) in
          let e = figure call 4 _ (odd_block 2 0) _ meets wrong refl computed.v_low in
          omega (arith, rw (v, keeps _ 3 (omega arith) computed.d_low) at e, computed.v_low_lem)
    ]

module _ (call : List ℕ → Outcome) (wrong : GivesFigure call 4 k_lost) where
  -- K of that cent is 1, and 2 with half a cent of LT lost ..
  pub half_cent_lost : MeetsBlock call → ⊥
  half_cent_lost meets = omega (arith, figure call 4 k_lost (odd_block 1 0) _ meets wrong refl computed.cent, computed.cent_lost)

  -- .. so that 'K can pass U': what such a call gives as K, where it accepts, is above U
  pub k_passes_u : (vs : List ℕ) → call (odd_block 1 0) ≡ accepted vs → U (odd_block 1 0) < get_or vs 4 0
  unfolding U A
  k_passes_u vs e = omega (arith, wrong (odd_block 1 0) vs refl e, computed.cent_lost)

module _ (most : ℕ → ℕ) where
  -- RO with 120 % in whole cents is a quotient rounded up
  ceiling :
      (l : List ℕ) → over_ten_thousand most l nothing ≤ ten_thousandths * 3 →
      LeastOf (over_ten_thousand most l nothing) (λ r. ten_thousandths * r) (whole_cents most l nothing)
  unfolding whole_cents
  ceiling l h = least_of _ (λ r. ten_thousandths * r) (λ m k le. mul-le-mul_left ten_thousandths le) 3 (omega arith) h

  -- three cents that count for 3 or less make RO of three classes 2 or more
  rounded_low : most 3 ≤ 3 → 1 < whole_cents most three_classes nothing
  unfolding over_ten_thousand total volume
  rounded_low h = omega (arith, (ceiling three_classes (omega arith)).reaches)

  -- and counting for 4 or more, RO of one class 1 or less
  rounded_high : 4 ≤ most 3 → whole_cents most class_one nothing ≤ 1
  unfolding over_ten_thousand total volume
  rounded_high h = (ceiling class_one (omega arith)).first 1 (omega arith)

module _ (call : List ℕ → List ℕ → Outcome) (meets : MeetsOperational call) where
  -- the figures that the contract and a miscalibration give for a territory's volumes are the same
  same :
      (wrong : List ℕ → List ℕ → ℕ) → GivesRO call wrong → (l : List ℕ) (ro : ℕ) → length l ≡ territory_numbers →
      operational_call l nothing ≡ accepted (ro ∷ []) → ro ≡ wrong l nothing
  same wrong gives l ro n e = omega (arith, gives l nothing (ro ∷ []) n refl (meets l nothing refl ∙ e))

  -- RO is 1, and 2 with each class rounded up
  pub each_rounded_lem : EachRounded call → ⊥
  each_rounded_lem wrong = omega (arith, same _ wrong two_cents 1 refl computed.charge, computed.each_rounded_lem)

  -- RO of three classes is 1, and 2 where three cents count for 3 or less; RO of one class is 2, and 1 where they count for 4 or more
  pub prior_in_whole_cents : PriorInWholeCents call → ⊥
  prior_in_whole_cents (most, wrong) =
      elim (dec_le (most 3) 3) [
        | yes h ↦ omega (arith, rounded_low most h, same _ wrong three_classes 1 refl computed.three_classes_lem)
        | no h ↦ omega (arith, rounded_high most (omega arith), same _ wrong class_one 2 refl computed.one_class)
      ]
