-- Volume and growth of the first k pairs of a list: how they grow, and how large they can be. Assumes nothing.
use Rattle.basics.proofs.Common.{◌≡◌, ℕ, zero, suc, ◌+◌, ◌-◌, ◌*◌, ◌/◌, ◌%◌, ◌<◌, ◌≤◌, List, length, get_or, refl, add-zero, add-suc, mul-le-mul_left, add-one, arith, leb-true, each_at, values_same}
use Rattle.basics.proofs.Common.{values}
use Rattle.amount.specs.Amount.{limit}
use Rattle.sizes.specs.Sizes.{territories, volume_classes, volume_pairs}
use Rattle.guideline.specs.Operational.{OperationalAmounts, volume_factors, largest_factor, factor_of, current, excess, total, volume, growth, charged, general_requirement, operational_numerator}

pub charged_none : (l : List ℕ) → charged l 0 ≡ 0
unfolding charged total
charged_none l = refl

pub charged_all : (l : List ℕ) → charged l (length l / 2) ≡ 5 * volume l + growth l
unfolding charged volume growth
charged_all l = refl

-- one pair more
pub charged_more : (l : List ℕ) (k : ℕ) → charged l (k + 1) ≡ charged l k + factor_of k * (5 * current l k + excess l k)
unfolding charged total
charged_more l k = rw (add-one k, charged, total) (omega arith)

pub factor_most : (k : ℕ) → factor_of k ≤ largest_factor
factor_most k = each_at (λ f. f ≤ largest_factor) 0 (omega arith) volume_factors (omega arith) (k % volume_classes)

-- from class to class the factors never rise
pub factors_fall : (k : ℕ) → k < volume_classes → get_or volume_factors (suc k) 0 ≤ get_or volume_factors k 0
unfolding values
factors_fall k h = grind (arith, leb-true, values_same)

-- each pair is charged at most ten times the limit for each unit of its factor, whatever its prior volume is
charged_most : (l : List ℕ) → ((k : ℕ) → current l k ≤ limit) → (k : ℕ) → charged l k ≤ 10 * limit * total factor_of k
unfolding total
charged_most l u zero = omega (arith, charged_none l)
charged_most l u (suc k) =
    let b : 5 * current l k + excess l k ≤ 10 * limit = omega (arith, u k) in
    rw (← add-one k, charged_more) (omega (arith, charged_most l u k, mul-le-mul_left (factor_of k) b))

total_rises : (f : ℕ → ℕ) (k m : ℕ) → total f k ≤ total f (k + m)
unfolding total
total_rises f k zero = rw add-zero (omega arith)
total_rises f k (suc m) = rw add-suc (omega (arith, total_rises f k m))

-- a territory's factors come to 1,000
factors_sum : total factor_of volume_pairs ≡ 1000 * territories
unfolding total
factors_sum = refl

-- what volume and growth of all pairs can come to
abbrev pub most_charged : ℕ
most_charged = 10 * limit * (1000 * territories)

pub charged_fits : (l : List ℕ) → ((k : ℕ) → current l k ≤ limit) → (k : ℕ) → k ≤ volume_pairs → charged l k ≤ most_charged
charged_fits l u k h =
    let e : k + (volume_pairs - k) ≡ volume_pairs = omega arith in
    omega (arith, charged_most l u k, rw e at (total_rises factor_of k (volume_pairs - k)), factors_sum)

-- how large the parts of the numerator of RO can be: it fits a word
pub record NumeratorFits (l g : List ℕ) : Type 0 where
  pub volume_and_growth_fits : 5 * volume l + growth l ≤ most_charged
  pub general_fits : general_requirement g ≤ 1275 * limit
  pub sum_fits : operational_numerator l g ≤ most_charged + 5 * (1275 * limit)

pub numerator_fits : (l g : List ℕ) → OperationalAmounts l g → NumeratorFits l g
unfolding operational_numerator
numerator_fits l g a =
    let h : length l / 2 ≤ volume_pairs = omega (arith, a.short) in
    let b = charged_fits l a.currents (length l / 2) h in
    let e = charged_all l in
    let r : general_requirement g ≤ 1275 * limit = omega (arith, a.gross, a.guarantee, a.ceded) in
    record { volume_and_growth_fits = omega arith; general_fits = r; sum_fits = omega arith }
