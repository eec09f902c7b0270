-- What the totals of an accepted sheet obey: the sum of K, RO, the bracket and the buffer. Assumes nothing.
use Rattle.basics.proofs.Common.{◌≡◌, ℕ, ◌+◌, ◌-◌, ◌*◌, ◌/◌, ◌%◌, ◌^◌, ◌<◌, ◌≤◌, leb, List, [], ◌∷◌, ◌++◌, length, sym, ap, mul-le-mul_right, arith, Each, least, LeastOf, least_of, ceil_eq}
use Rattle.amount.specs.Amount.{limit}
use Rattle.sizes.specs.Sizes.{blocks, FitsColumns, ten_thousandths, largest_scalar}
use Rattle.guideline.specs.Block.{K, AcceptedBlock}
use Rattle.guideline.specs.Operational.{OperationalAmounts, operational_numerator, operational_denominator, RO}
use Rattle.guideline.specs.Buffer.{Sheet, count, GFD, sum_k, free, available, bracket, buffer, AcceptedSheet, most_available}
use Rattle.guideline.proofs.Figures.{u_fits, k_high}
use Rattle.guideline.proofs.Charges.{numerator_fits}

-- ---- the sum of K

-- one block more at the end
pub sum_more : (bs : List (List ℕ)) (b : List ℕ) → sum_k (bs ++ (b ∷ [])) ≡ sum_k bs + K b
unfolding sum_k
sum_more [] b = omega arith
sum_more (c ∷ bs) b = omega (arith, sum_more bs b)

pub sum_fits : (bs : List (List ℕ)) → Each AcceptedBlock bs → sum_k bs ≤ 10 * limit * length bs
unfolding sum_k
sum_fits [] vs = omega arith
sum_fits (b ∷ bs) vs = omega (arith, k_high b vs.0, u_fits b vs.0, sum_fits bs vs.1)

-- ---- RO

module _ (l g : List ℕ) (amounts : OperationalAmounts l g) where
  pub ro_law : LeastOf (operational_numerator l g) (λ r. operational_denominator * r) (RO l g)
  unfolding RO
  ro_law =
      let n = operational_numerator l g in
      let r : LeastOf n _ (RO l g) = least_of n _ (λ m k h. omega arith) n (omega (arith, numerator_fits l g amounts)) (omega arith) in
      record { reaches = omega (arith, r.reaches); first = λ m h. r.first m (omega arith) }

  pub ro_fits : RO l g ≤ 4 * limit
  ro_fits = ro_law.first (4 * limit) (omega (arith, numerator_fits l g amounts))

-- ---- the bracket and the buffer

-- whether the credits are within or not: rule 13 compares them with what is available
module _
    (s : Sheet) (each : Each AcceptedBlock s.blocks) (few : count s ≤ blocks) (amounts : OperationalAmounts s.volumes s.general)
  where
    pub available_fits : available s ≤ most_available
    unfolding available
    available_fits = omega (arith, sum_fits s.blocks each, ro_fits s.volumes s.general amounts, amounts.guarantee)

module _ (s : Sheet) (v : AcceptedSheet s) where
  pub bracket_fits : bracket s ≤ most_available
  unfolding bracket available
  bracket_fits = omega (arith, available_fits s v.blocks_pass v.few v.amounts)

  -- the bracket, with no difference
  pub bracket_is : bracket s + (s.CRᵢ + free s) ≡ sum_k s.blocks + GFD s + RO s.volumes s.general
  unfolding bracket available
  bracket_is = omega (arith, v.credits_within)

  -- g is at most 2
  twice_passes : s.g * bracket s ≤ ten_thousandths * (2 * bracket s)
  twice_passes = omega (arith, mul-le-mul_right (bracket s) v.g_high)

  pub buffer_law : LeastOf (s.g * bracket s) (λ x. ten_thousandths * x) (buffer s)
  unfolding buffer
  buffer_law =
      let n = s.g * bracket s in
      let l : LeastOf n _ (buffer s) = least_of n _ (λ m k h. omega arith) (2 * bracket s) (omega (arith, bracket_fits)) (omega (arith, twice_passes)) in
      record { reaches = omega (arith, l.reaches); first = λ m h. l.first m (omega arith) }

  -- each total fits the columns of its line
  pub totals_fit : Each FitsColumns (sum_k s.blocks ∷ RO s.volumes s.general ∷ buffer s ∷ [])
  totals_fit =
      omega (
        arith,
        v.few,
        sum_fits s.blocks v.blocks_pass,
        ro_fits s.volumes s.general v.amounts,
        bracket_fits,
        buffer_law.first (2 * bracket s) twice_passes,
      )

-- ---- as code finds the buffer: g times b over 10,000, rounded up, with no product that passes a word

module _ (g b : ℕ) (g_high : g ≤ largest_scalar) (b-high : b ≤ most_available) where
  pub split_fits : (g * (b / ten_thousandths) < 2 ^ 57) × (g * (b % ten_thousandths) < 2 ^ 28)
  split_fits = omega (arith, mul-le-mul_right (b / ten_thousandths) g_high, mul-le-mul_right (b % ten_thousandths) g_high)

  pub buffer_split : g * (b / ten_thousandths) + (g * (b % ten_thousandths) + (ten_thousandths - 1)) / ten_thousandths ≡ least (λ x. leb (g * b) (ten_thousandths * x))
  buffer_split =
      let e : b ≡ ten_thousandths * (b / ten_thousandths) + b % ten_thousandths = omega arith in
      let ge : g * b ≡ g * (ten_thousandths * (b / ten_thousandths) + b % ten_thousandths) = ap (λ (z : ℕ). g * z) e in
      sym (ceil_eq (g * b) ten_thousandths _ (omega (arith, split_fits)) (omega arith) (omega arith))
