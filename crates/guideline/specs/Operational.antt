-- Operational risk, chapter 8, after document 01, 'Operational risk'. The volumes are the operational call's list: for each territory
-- eight pairs, the current and the prior volume of classes 1 to 8, one territory after the other. So the pair k, counted from 0 through
-- the whole list, is of class k mod 8 + 1. The general figures are gross components, guarantee requirement and ceded premiums.
-- Assumes nothing.
use Rattle.std.specs.Prelude.{◌≡◌, refl, List, [], ◌∷◌, ℕ, zero, suc, ◌+◌, ◌-◌, ◌*◌, ◌/◌, ◌%◌, ◌≤◌, ◌<◌, leb, length, get_or, pos, ◌-ℤ◌}
use Rattle.std.proofs.Math.Nat.{mul-sub}
use Rattle.std.proofs.Common.{sym, ap, ◌∙◌, mul-le-mul_left, arith}
use Rattle.std.proofs.Math.Decide.{ℕ_discrete}
use Rattle.amount.specs.Amount.{limit}
use Rattle.basics.specs.Least.{least}
use Rattle.integer.specs.Larger.{larger}
use Rattle.integer.proofs.Difference.{cut_larger, less_diff}
use Rattle.sizes.specs.Sizes.{volume_classes, volume_numbers, ten_thousandths}

-- 'Eight volume classes .. with factors in ten-thousandths' (8.2.1). Direct premiums: individual life, group life, other, annuities
-- excepted; reinsurance accepted; segregated funds with guarantees; annuities in payment; universal life accounts; other accounts
-- and accumulating annuities
abbrev pub volume_factors : List ℕ
volume_factors = 250 ∷ 250 ∷ 250 ∷ 175 ∷ 40 ∷ 15 ∷ 10 ∷ 10 ∷ []

-- the largest of them
abbrev pub largest_factor : ℕ
largest_factor = 250

-- the factor of the pair k
abbrev pub factor_of : ℕ → ℕ
factor_of k = get_or volume_factors (k % volume_classes) 0

-- its current volume
abbrev pub current : List ℕ → ℕ → ℕ
current l k = get_or l (2 * k) 0

-- and its prior volume
abbrev pub prior : List ℕ → ℕ → ℕ
prior l k = get_or l (2 * k + 1) 0

-- f 0 + f 1 + .. + f (n − 1): pairs count from 0, where `sum_to` of basics counts from 1
unfoldable pub total : (ℕ → ℕ) → ℕ → ℕ
total f zero = 0
total f (suc n) = total f n + f n

-- 'Volume: factor × current' (8.2.1), over 10,000
unfoldable pub volume : List ℕ → ℕ
volume l = total (λ k. factor_of k * current l k) (length l / 2)

-- five times the excess of current over 120 % of prior, 'nothing if there is none'
abbrev pub excess : List ℕ → ℕ → ℕ
excess l k = 5 * current l k - 6 * prior l k

-- 'Growth: factor × the excess of current over 120 % of prior ..; each class in each territory alone' (8.2.2), over 50,000
unfoldable pub growth : List ℕ → ℕ
growth l = total (λ k. factor_of k * excess l k) (length l / 2)

-- five times the volume and the growth of the first k pairs: their part of the numerator of RO
unfoldable pub charged : List ℕ → ℕ → ℕ
charged l k = 5 * total (λ j. factor_of j * current l j) k + total (λ j. factor_of j * excess l j) k

-- 'each class in each territory alone': what a class grows by is in it in full, whatever the others do
pub growth_alone : (l : List ℕ) (k : ℕ) → k < length l / 2 → factor_of k * (5 * current l k) ≤ growth l + factor_of k * (6 * prior l k)
unfolding growth total
growth_alone l k h =
    let b : 5 * current l k ≤ excess l k + 6 * prior l k = omega arith in
    omega (arith, part (length l / 2) h, mul-le-mul_left (factor_of k) b)
  where
    part : (n : ℕ) → k < n → factor_of k * excess l k ≤ total (λ j. factor_of j * excess l j) n
    part zero h = omega arith
    part (suc n) h = elim (ℕ_discrete k n) [ yes e ↦ rw e (omega arith) | no e ↦ omega (arith, part n (omega arith)) ]

-- no part of it is rounded: where every class grows, growth and 120 % of the prior volumes make up the volume
pub growth_exact :
    (l : List ℕ) → ((k : ℕ) → 6 * prior l k ≤ 5 * current l k) →
    growth l + 6 * total (λ k. factor_of k * prior l k) (length l / 2) ≡ 5 * volume l
unfolding growth volume total
growth_exact l h = to (length l / 2)
  where
    to : (n : ℕ) → total (λ k. factor_of k * excess l k) n + 6 * total (λ k. factor_of k * prior l k) n ≡ 5 * total (λ k. factor_of k * current l k) n
    to zero = refl
    to (suc n) = omega (arith, to n, mul-sub (factor_of n) (5 * current l n) (6 * prior l n), mul-le-mul_left (factor_of n) (h n))

-- the excess in ℤ: the larger of 0 and the difference, the one in this file that is cut
pub excess_larger : (l : List ℕ) (k : ℕ) → pos (excess l k) ≡ larger (pos 0) (pos (5 * current l k) -ℤ pos (6 * prior l k))
excess_larger l k = cut_larger (5 * current l k) (6 * prior l k) ∙ ap (larger (pos 0)) (sym (less_diff (5 * current l k) (6 * prior l k)))

-- 'General: 575 × gross components + 450 × the segregated fund guarantee requirement + 250 × ceded premiums' (8.2.3), over 10,000
abbrev pub general_requirement : List ℕ → ℕ
general_requirement g = 575 * get_or g 0 0 + 450 * get_or g 1 0 + 250 * get_or g 2 0

-- what growth is over: fifths of a ten-thousandth
abbrev pub operational_denominator : ℕ
operational_denominator = 5 * ten_thousandths

-- the sum of the three: the exact operational figure is this over 50,000
unfoldable pub operational_numerator : List ℕ → List ℕ → ℕ
operational_numerator l g = 5 * volume l + growth l + 5 * general_requirement g

-- 'rounded up once, at the end, to RO'
unfoldable pub RO : List ℕ → List ℕ → ℕ
RO l g = least (λ r. leb (operational_numerator l g) (operational_denominator * r))

-- the numbers that RO is worked out of: volumes of no more territories than there are; no amount above the limit, but a prior volume, which is of
-- two amounts where one was acquired (document 02, #106), at most twice it. What rules 15 and 7 leave is within this
pub record OperationalAmounts (l g : List ℕ) : Type 0 where
  pub short : length l ≤ volume_numbers
  pub currents : (k : ℕ) → current l k ≤ limit
  pub priors : (k : ℕ) → prior l k ≤ 2 * limit
  pub gross : get_or g 0 0 ≤ limit
  pub guarantee : get_or g 1 0 ≤ limit
  pub ceded : get_or g 2 0 ≤ limit
