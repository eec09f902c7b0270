-- Inequalities between naturals, which the exact values rest on: the roots, M and K's fraction at n/s; no block is mentioned. Assumes nothing.
use Rattle.basics.proofs.Common.{◌≡◌, ℕ, suc, ◌+◌, ◌*◌, ◌<◌, ◌≤◌, mul-le-mul_right, mul-lt-mul_of_pos_right, mul-pos, arith, mul-sub, lt_of_squares}
use Rattle.guideline.specs.Block.{radicand, M, k_numerator}
use Rattle.guideline.proofs.Bounds.{rearrangement, root_twice, m_rises}

-- any n/s whose square is at least the radicand is above D − 2, in the unit of D: `c` is D − 1
module _ (a n s c : ℕ) (pos : 0 < s) where
  -- where the largest y decides I
  pub near_largest : (i : ℕ) → c * c < radicand a i → radicand a i * (s * s) ≤ n * n → c * s < n
  near_largest i lt h = lt_of_squares (c * s) n (omega (arith, mul-lt-mul_of_pos_right lt (mul-pos pos pos)))

  -- where the root decides I, which is j + 1
  pub near_root : (j : ℕ) → c * c < radicand a (suc j) → radicand a j * (s * s) ≤ n * n → c * s < n + s
  near_root j lt h =
      let two = root_twice (a * s) (j * s) n (omega arith) in
      lt_of_squares (c * s) (n + s) (omega (arith, mul-lt-mul_of_pos_right lt (mul-pos pos pos), mul-le-mul_right s two))

m_scaled : (v d s : ℕ) → M (v * s) (d * s) ≡ M v d * (s * s)
m_scaled v d s = omega (arith, mul-sub (s * s) (7 * (v * v) + 30 * (d * d)) (31 * (d * v)))

-- at the fractions n/s and m/t
pub m_rises_over : (v n s m t : ℕ) → v * s ≤ 3 * n → n * t ≤ m * s → M (v * s) n * (t * t) ≤ M (v * t) m * (s * s)
m_rises_over v n s m t h k =
    let l : v * s * t ≤ 3 * (n * t) = omega (arith, mul-le-mul_right t h) in
    omega (arith, m_rises (v * s * t) (n * t) (m * s) l k, m_scaled (v * s) n t, m_scaled (v * t) m s)

-- the numerator of K's fraction at n/s, over 60 × V × s²
abbrev pub numerator_at : ℕ → ℕ → ℕ → ℕ → ℕ → ℕ
numerator_at u l v n s = (48 * (u * v) + 6 * (l * v)) * (s * s) + M (v * s) n

-- a fraction over 60 × V × s² rises with the part x of its numerator
pub numerator_rises :
    (c v x s y t : ℕ) → x * (t * t) ≤ y * (s * s) →
    (c * (s * s) + x) * (60 * v * (t * t)) ≤ (c * (t * t) + y) * (60 * v * (s * s))
numerator_rises c v x s y t h = omega (arith, mul-le-mul_right (60 * v) h)

-- K is at or above K's fraction at n/s, where V/3 ≤ n/s ≤ D
pub k_above :
    (u l v d k n s : ℕ) → v * s ≤ 3 * n → n ≤ d * s → k_numerator u l v d ≤ 60 * (v * k) →
    numerator_at u l v n s ≤ 60 * v * (s * s) * k
k_above u l v d k n s low up h = omega (arith, m_rises (v * s) n (d * s) low up, m_scaled v d s, mul-le-mul_right (s * s) h)

-- k is below K's fraction at n/3, where k + 1 is below it at D and n is the larger of 3D − 6 and V
pub k_near :
    (u l v d k n : ℕ) → d ≤ v → v ≤ n → 3 * d ≤ n + 6 → n ≤ 3 * d → 0 < v → 60 * (v * suc k) < k_numerator u l v d →
    60 * v * (3 * 3) * k < numerator_at u l v n 3
k_near u l v d k n du nl nd nu pos h =
    let b : 90 * d + 30 * n ≤ 180 * v = omega arith in
    omega (arith, rearrangement nu b, mul-le-mul_right v nd)
