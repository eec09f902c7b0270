-- All that is computed of the calibration, in one record: whether every row of document 01 holds, and at an input for each miscalibration the
-- figure of the call and the one that the miscalibration gives. Assumes nothing.
use Rattle.basics.proofs.Common.{◌≡◌, ℕ, suc, ◌*◌, T, eqb, List, [], ◌∷◌, refl, ascending, first, first_from, any_to, least_from, pick, sum_to, one}
use Rattle.integer.specs.Sum.{sum}
use Rattle.refusal.specs.Outcome.Outcome.{accepted}
use Rattle.amount.specs.Amount.{first_above}
use Rattle.amount.specs.Rule7.{rule7}
use Rattle.sizes.specs.Sizes.{risks, fineness}
use Rattle.guideline.specs.Factors.{factors}
use Rattle.guideline.specs.Block.{A, U, LT, Vh, y, ys, Q4, largest_of, largest, root, fine_i, a, fine_d, reported, I, D, requirement, K, figures_of}
use Rattle.guideline.specs.Operational.{total, volume, growth, operational_numerator, RO}
use Rattle.mortality.specs.Credit.{twice_radicand, aggregated, diversification_credit}
use Rattle.root.specs.Steps.{binary_length, steps}
use Rattle.insurance.specs.Radicand.{radicand_i}
use Rattle.figures.specs.RootSteps.{radicand_d, steps_of}
use Rattle.block.specs.Call.{first_lt_above, rule9, rule8, block_call}
use Rattle.operational.specs.Call.{operational_call}
use Rattle.fluctuation.specs.Rows.{rows, row_of, base_of}
use Rattle.fluctuation.specs.Result.{reaches, factored_requirement}
use Rattle.fluctuation.specs.Call.{fluctuation_call}
use Rattle.apportion.specs.Shares.{base, remainder, left_over, before, rank, cent, share, shares}
use Rattle.shares.specs.Margins.{without, k_without, margin}
use Rattle.shares.specs.Call.{after_block, unless_zero, rule23, shares_call}
use Rattle.places.specs.Entries.{has_key, lookup}
use Rattle.ledger.specs.Numbers.{pairs, volumes_by}
use Rattle.calibration.specs.Points.{nothing, gives, all_given, points}
use Rattle.calibration.specs.Miscalibrations.{i_from, pc_in_risk, k_lost, ys_halved, each_rounded}

-- IR(1), IR(2) and PC of 100
abbrev pub pc_block : List ℕ
pc_block = 100 ∷ 0 ∷ 100 ∷ 0 ∷ 0 ∷ 0 ∷ 0 ∷ 0 ∷ 0 ∷ 0 ∷ 0 ∷ 0 ∷ 0 ∷ 0 ∷ 100 ∷ 0 ∷ 0 ∷ []

-- IR(5) of 100, IR(6) of 50 and PC of 100: the floor is larger than the root
abbrev pub floor_block : List ℕ
floor_block = 0 ∷ 0 ∷ 0 ∷ 0 ∷ 0 ∷ 0 ∷ 0 ∷ 0 ∷ 100 ∷ 0 ∷ 50 ∷ 0 ∷ 0 ∷ 0 ∷ 100 ∷ 0 ∷ 0 ∷ []

-- a component of n cents, of which one is level and trend, and credit of m
abbrev pub odd_block : ℕ → ℕ → List ℕ
odd_block n m = n ∷ 1 ∷ 0 ∷ 0 ∷ 0 ∷ 0 ∷ 0 ∷ 0 ∷ 0 ∷ 0 ∷ 0 ∷ 0 ∷ 0 ∷ 0 ∷ 0 ∷ m ∷ 0 ∷ []

-- IR(1) of 220, IR(3) of n and credit of m
abbrev pub root_block : ℕ → ℕ → List ℕ
root_block n m = 220 ∷ 0 ∷ 0 ∷ 0 ∷ n ∷ 0 ∷ 0 ∷ 0 ∷ 0 ∷ 0 ∷ 0 ∷ 0 ∷ 0 ∷ 0 ∷ 0 ∷ m ∷ 0 ∷ []

-- a cent of class 7 and a cent of class 8, together a fiftieth of a cent
abbrev pub two_cents : List ℕ
two_cents = 0 ∷ 0 ∷ 0 ∷ 0 ∷ 0 ∷ 0 ∷ 0 ∷ 0 ∷ 0 ∷ 0 ∷ 0 ∷ 0 ∷ 1 ∷ 1 ∷ 1 ∷ 1 ∷ []

-- classes 1 to 3 with three cents of prior volume each, 25 of current volume together
abbrev pub three_classes : List ℕ
three_classes = 9 ∷ 3 ∷ 8 ∷ 3 ∷ 8 ∷ 3 ∷ 0 ∷ 0 ∷ 0 ∷ 0 ∷ 0 ∷ 0 ∷ 0 ∷ 0 ∷ 0 ∷ 0 ∷ []

-- class 1 with three cents of prior and 22 of current volume
abbrev pub class_one : List ℕ
class_one = 22 ∷ 3 ∷ 0 ∷ 0 ∷ 0 ∷ 0 ∷ 0 ∷ 0 ∷ 0 ∷ 0 ∷ 0 ∷ 0 ∷ 0 ∷ 0 ∷ 0 ∷ 0 ∷ []

-- what is computed: every row holds; at each input, what the call gives and the figure in its place under the miscalibration
pub record Table : Type 0 where
  pub rows : T (all_given points)
  pub pc : block_call pc_block ≡ accepted (445 ∷ 445 ∷ 300 ∷ 0 ∷ 246 ∷ 15 ∷ 16 ∷ [])
  pub pc_in_risk_lem : first (λ k. eqb (pc_in_risk k pc_block) 445) (suc risks) ≡ suc risks
  pub floor : block_call floor_block ≡ accepted (400 ∷ 400 ∷ 250 ∷ 0 ∷ 212 ∷ 15 ∷ 16 ∷ [])
  pub floor_larger : root floor_block ≡ 17321
  pub floor_alone : reported (fineness * largest floor_block) ≡ 200
  pub cent : block_call (odd_block 1 0) ≡ accepted (1 ∷ 1 ∷ 1 ∷ 1 ∷ 1 ∷ 7 ∷ 7 ∷ [])
  pub half_lost : reported (i_from (2 ∷ 0 ∷ 0 ∷ 0 ∷ 0 ∷ 0 ∷ 0 ∷ []) 0) ≡ 2
  pub half_more : reported (i_from (0 ∷ 0 ∷ 0 ∷ 0 ∷ 0 ∷ 0 ∷ 0 ∷ []) 0) ≡ 0
  pub cent_lost : k_lost (odd_block 1 0) ≡ 2
  pub v_high : block_call (odd_block 4 4) ≡ accepted (7 ∷ 13 ∷ 8 ∷ 1 ∷ 8 ∷ 10 ∷ 11 ∷ [])
  pub d_high : fine_d (odd_block 4 4) ≡ fineness * 13
  pub v_high_lem : requirement 8 1 16 (fineness * 13) ≡ 7
  pub v_low : block_call (odd_block 2 0) ≡ accepted (3 ∷ 3 ∷ 2 ∷ 1 ∷ 2 ∷ 9 ∷ 9 ∷ [])
  pub d_low : fine_d (odd_block 2 0) ≡ fineness * 3
  pub v_low_lem : requirement 2 1 2 (fineness * 3) ≡ 3
  pub root_i : block_call (root_block 171 0) ≡ accepted (680 ∷ 680 ∷ 391 ∷ 0 ∷ 349 ∷ 17 ∷ 17 ∷ [])
  pub root_d : block_call (root_block 0 171) ≡ accepted (440 ∷ 680 ∷ 391 ∷ 0 ∷ 349 ∷ 16 ∷ 17 ∷ [])
  pub charge : operational_call two_cents nothing ≡ accepted (1 ∷ [])
  pub each_rounded_lem : each_rounded two_cents nothing ≡ 2
  pub three_classes_lem : operational_call three_classes nothing ≡ accepted (1 ∷ [])
  pub one_class : operational_call class_one nothing ≡ accepted (2 ∷ [])

pub computed : Table
unfolding
    pick least_from first_from first_above factors sum A U LT Vh y ys Q4 largest_of largest root fine_i a fine_d reported I D requirement K
    figures_of total volume growth operational_numerator RO binary_length steps radicand_i radicand_d steps_of first_lt_above rule9 rule8
    block_call rule7 operational_call rows row_of base_of reaches factored_requirement fluctuation_call
    any_to sum_to one ascending base remainder left_over before rank cent share shares without k_without margin after_block unless_zero rule23
    shares_call
    has_key lookup pairs volumes_by twice_radicand aggregated diversification_credit gives all_given i_from pc_in_risk ys_halved k_lost each_rounded
computed =
    record {
      rows = tt;
      pc = refl;
      pc_in_risk_lem = refl;
      floor = refl;
      floor_larger = refl;
      floor_alone = refl;
      cent = refl;
      half_lost = refl;
      half_more = refl;
      cent_lost = refl;
      v_high = refl;
      d_high = refl;
      v_high_lem = refl;
      v_low = refl;
      d_low = refl;
      v_low_lem = refl;
      root_i = refl;
      root_d = refl;
      charge = refl;
      each_rounded_lem = refl;
      three_classes_lem = refl;
      one_class = refl;
    }
