-- Inequalities between naturals, which the bounds on a block's figures rest on; no block is mentioned. Assumes nothing.
use Rattle.basics.proofs.Common.{◌≡◌, ℕ, ◌+◌, ◌-◌, ◌*◌, ◌<◌, ◌≤◌, ap, mul-le-mul_right, mul-le-mul, mul-le-mul_left, arith, dec_le, le_dest, le_of_mul-le-mul_left, mul-sub, le_of_squares}
use Rattle.guideline.specs.Block.{radicand, M, k_numerator, k_undiversified}

-- (b − a)(d − c) is 0 or more
pub rearrangement : {a b c d : ℕ} → a ≤ b → c ≤ d → a * d + b * c ≤ b * d + a * c
rearrangement h k = rw (← (le_dest h).1, ← (le_dest k).1) (omega arith)

pub twice : (a b : ℕ) → 2 * (a * b) ≤ a * a + b * b
twice a b = elim (dec_le a b) [ yes h ↦ omega (arith, rearrangement h h) | no h ↦ let k : b ≤ a = omega arith in omega (arith, rearrangement k k) ]

-- ---- D: the root of a² + a × i + i²

pub radicand_most : (a i v : ℕ) → a + i ≤ v → radicand a i ≤ v * v
radicand_most a i v h = omega (arith, mul-le-mul h h)

pub radicand_rises : (a : ℕ) {i j : ℕ} → i ≤ j → radicand a i ≤ radicand a j
radicand_rises a h = omega (arith, mul-le-mul_left a h, mul-le-mul h h)

pub root_thrice : (a i d : ℕ) → radicand a i ≤ d * d → a + 3 * i ≤ 3 * d
root_thrice a i d h = le_of_squares (a + 3 * i) (3 * d) (omega arith)

pub root_twice : (a i d : ℕ) → radicand a i ≤ d * d → a + 2 * i ≤ 2 * d
root_twice a i d h = le_of_squares (a + 2 * i) (2 * d) (omega arith)

-- ---- M

-- where 3d is at least v, M is a product of two differences, each cut at 0
pub factored : (v d : ℕ) → v ≤ 3 * d → M v d ≡ (3 * d - v) * (10 * d - 7 * v)
factored v d h =
    omega (
      arith,
      mul-sub (3 * d - v) (10 * d) (7 * v),
      mul-sub (10 * d) (3 * d) v,
      mul-sub (7 * v) (3 * d) v,
      mul-le-mul_left (10 * d) h,
      mul-le-mul_left (7 * v) h,
    )

-- so it never falls as d rises from v/3
pub m_rises : (v d e : ℕ) → v ≤ 3 * d → d ≤ e → M v d ≤ M v e
m_rises v d e h k =
    let l : v ≤ 3 * e = omega arith in
    rw (factored v d h, factored v e l) (mul-le-mul (omega arith) (omega arith))

-- ---- K

module _ (u l v d : ℕ) (v_is : 2 * u ≡ v + l) (d_high : d ≤ v) where
  -- K is at least (LT + D) / 2
  pub k_least : (k : ℕ) → 0 < v → k_numerator u l v d ≤ 60 * (v * k) → l + d ≤ 2 * k
  k_least k pos h =
      le_of_mul-le-mul_left {k = v}
      (omega (arith, ap (λ (z : ℕ). z * v) v_is, mul-le-mul_right v d_high, twice d v))
      pos

  -- U passes K's test
  pub u_passes : v ≤ 3 * d → k_numerator u l v d ≤ 60 * (v * u)
  u_passes low = omega (arith, m_rises v d v low d_high, k_undiversified u l v v_is)
