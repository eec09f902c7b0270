-- The plainest program with each miscalibration, which has one figure that is miscalibrated, all others of the paper, and refuses all that the
-- call refuses, meets its premise: the theorems in Refutations and NearestRoots are about programs that there are. Assumes nothing.
-- In order: the block call, figure by figure: PC, the floor, LT halved, the lost half cent, the two roots; the operational call.
use Rattle.basics.proofs.Common.{◌≡◌, ℕ, ◌+◌, ◌-◌, ◌*◌, ◌/◌, ◌<◌, ◌≤◌, ltb, List, length, get_or, set, ℤ, pos, sym, refl, ap, ◌∙◌, mul-le-mul, arith, get_or-set_same, le_z, least, pick, least_eq}
use Rattle.basics.proofs.Common.{ceil_eq, if_lt, never}
use Rattle.refusal.specs.Outcome.{Outcome, Outcome.accepted, Outcome.refused}
use Rattle.sizes.specs.Sizes.{risks, block_figures, fineness}
use Rattle.guideline.specs.Block.{seven, PC, U, LT, largest, root, fine_d, reported, I, D, requirement, figures_of}
use Rattle.figures.specs.RootSteps.{steps_of}
use Rattle.block.specs.Call.{block_call}
use Rattle.block.specs.Accepted.{BlockDemand3}
use Rattle.block.proofs.Acceptance.{block_demanded}
use Rattle.operational.specs.Call.{operational_call}
use Rattle.calibration.specs.Miscalibrations.{put_in_place, put_at, GivesFigure, GivesRO, pc_in_risk, PcInOneRisk, PcLeftOut, i_from, ys_halved, LTHalvedInY, v_halved, WholeHalf, KeepsWholeD}
use Rattle.calibration.specs.Miscalibrations.{LTHalvedInV, k_lost, nearest, KeepsWhole, k_by_roots, IToNearest, DToNearest}
use Rattle.calibration.proofs.NearestRoots.{nearest_is}

-- where it accepts, the figure is x
pub in_place : (o : Outcome) (x : ℕ) (vs : List ℕ) → put_in_place o x ≡ accepted vs → get_or vs 0 0 ≡ x
in_place (accepted ws) x vs e = cc
in_place (refused n p) x vs e = never (cc)

-- ---- the block call

-- such a program gives its figure, at a place among the five
figure_met : (at : ℕ) → at < block_figures → (wrong : List ℕ → ℕ) → GivesFigure (λ b. put_at at (block_call b) (wrong b)) at wrong
unfolding figures_of steps_of
figure_met at h wrong b vs n e = there (block_call b) (block_demanded b (block_call b) refl) e
  where
    there : (o : Outcome) → BlockDemand3 b o → put_at at o (wrong b) ≡ accepted vs → get_or vs at 0 ≡ wrong b
    there (accepted ws) d q =
        let long : at < length ws = rw d.0 (omega arith) in
        let same : set ws at (wrong b) ≡ vs = cc in
        ap (λ (l : List ℕ). get_or l at 0) (sym same) ∙ get_or-set_same ws at (wrong b) 0 long
    there (refused m p) d q = never (cc)

pub pc_in_risk_met : (k : ℕ) → 1 ≤ k → k ≤ risks → PcInOneRisk (λ b. put_in_place (block_call b) (pc_in_risk k b))
pc_in_risk_met k l h b vs n e = (k, l, h, cc (in_place (block_call b) (pc_in_risk k b) vs e))

-- PC left out where the floor is the larger, and else the call's own I
abbrev pub left_out : List ℕ → ℕ
left_out b = pick (ltb (root b) (fineness * largest b)) (reported (fineness * largest b)) (I b)

pub pc_left_out_met : PcLeftOut (λ b. put_at 0 (block_call b) (left_out b))
pc_left_out_met b vs n e h = figure_met 0 (omega arith) left_out b vs n e ∙ if_lt _ h

pub lt_halved_in_y_met : (half : ℕ → ℕ → ℕ) → LTHalvedInY (λ b. put_at 0 (block_call b) (reported (i_from (ys_halved half b) (PC b))))
lt_halved_in_y_met half = (half, figure_met 0 (omega arith) _)

-- K with half of LT in whole cents in V, and a D
abbrev pub k_halved : (half d : List ℕ → ℕ) → List ℕ → ℕ
k_halved half d b = requirement (U b) (LT b) (v_halved half b) (d b)

-- cents cut off, and cents filled up: of the sum ..
abbrev pub half_of_sum : ℕ → List ℕ → ℕ
half_of_sum up l = (seven (λ i. get_or l (i - 1) 0) + up) / 2

-- .. and of each
abbrev pub sum_of_halves : ℕ → List ℕ → ℕ
sum_of_halves up l = seven (λ i. (get_or l (i - 1) 0 + up) / 2)

of_sum_whole : (up : ℕ) → up ≤ 1 → WholeHalf (half_of_sum up)
unfolding LT
of_sum_whole up h b =
    (λ e. omega arith, λ e. omega arith, λ e. omega arith, λ e. omega arith, λ e. omega arith, λ e. omega arith, λ e. omega arith)

of_each_whole : (up : ℕ) → up ≤ 1 → WholeHalf (sum_of_halves up)
unfolding LT
of_each_whole up h b =
    (λ e. omega arith, λ e. omega arith, λ e. omega arith, λ e. omega arith, λ e. omega arith, λ e. omega arith, λ e. omega arith)

-- D in half cents, as it is reported
abbrev pub in_half_cents : List ℕ → ℕ
in_half_cents b = fineness * D b

in_half_cents_keeps : KeepsWholeD in_half_cents
unfolding D reported
in_half_cents_keeps b n l e = ap (λ (x : ℕ). fineness * x) (ceil_eq (fine_d b) fineness n l (omega (arith, e)) (omega (arith, e)))

module _ (up : ℕ) (h : up ≤ 1) where
  -- the sum halved, D as the paper has it
  pub half_of_sum_met : LTHalvedInV (λ b. put_at 4 (block_call b) (k_halved (half_of_sum up) fine_d b))
  half_of_sum_met = (half_of_sum up, fine_d, of_sum_whole up h, λ b n l e. e, figure_met 4 (omega arith) _)

  -- each halved, D in half cents
  pub sum_of_halves_met : LTHalvedInV (λ b. put_at 4 (block_call b) (k_halved (sum_of_halves up) in_half_cents b))
  sum_of_halves_met = (sum_of_halves up, in_half_cents, of_each_whole up h, in_half_cents_keeps, figure_met 4 (omega arith) _)

pub half_cent_lost_met : GivesFigure (λ b. put_at 4 (block_call b) (k_lost b)) 4 k_lost
half_cent_lost_met = figure_met 4 (omega arith) k_lost

-- the root of z quarters rounded up, and the nearest number, leave a whole one
pub raised : ℤ → ℕ
raised z = least (λ r. le_z z (pos (4 * (r * r))))

raised_keeps : KeepsWhole raised
unfolding raised
raised_keeps r h =
    least_eq (4 * (r * r)) (λ r. 4 * (r * r)) (λ m k le. omega (arith, mul-le-mul le le)) r h (omega arith) (λ p.
    let e : r - 1 + 1 ≡ r = omega arith in
    omega (arith, ap (λ (x : ℕ). x * x) e))

nearest_keeps : KeepsWhole nearest
nearest_keeps r h =
    nearest_is (4 * (r * r)) r h (omega arith) (λ p.
    let e : 2 * (r - 1) + 1 + 1 ≡ 2 * r = omega arith in
    omega (arith, ap (λ (x : ℕ). x * x) e))

module _ (f : ℕ) (l : 1 ≤ f) (h : f ≤ fineness) where
  -- one of the two roots to the nearest
  pub i_to_nearest_met : IToNearest (λ b. put_at 4 (block_call b) (k_by_roots f nearest raised b))
  i_to_nearest_met = (f, raised, l, h, raised_keeps, figure_met 4 (omega arith) _)

  pub d_to_nearest_met : DToNearest (λ b. put_at 4 (block_call b) (k_by_roots f raised nearest b))
  d_to_nearest_met = (f, raised, l, h, raised_keeps, figure_met 4 (omega arith) _)

  -- both
  pub both_to_nearest_met :
      let call : List ℕ → Outcome = λ b. put_at 4 (block_call b) (k_by_roots f nearest nearest b) in
      IToNearest call × DToNearest call
  both_to_nearest_met =
      ((f, nearest, l, h, nearest_keeps, figure_met 4 (omega arith) _), (f, nearest, l, h, nearest_keeps, figure_met 4 (omega arith) _))

-- ---- the operational call

-- of whichever figure in place of RO: each class rounded, 120 % in whole cents
pub ro_met : (wrong : List ℕ → List ℕ → ℕ) → GivesRO (λ l g. put_in_place (operational_call l g) (wrong l g)) wrong
ro_met wrong l g vs m n e = cc (in_place (operational_call l g) (wrong l g) vs e)
