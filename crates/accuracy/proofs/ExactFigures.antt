-- The finer I and D and the reported K against the exact ones: the finer I and D are at or above, so every d that fits is at most the finer D and
-- K's fraction there at most K; and the finer D less two hundredths, or a third of V, still fits, where K's fraction is less than 1.01 below.
-- Assumes nothing.
-- In order: small laws; K's fraction; the finer I and D against the exact ones; and so for the reported ones, which are no lower; the reported K is
-- not strictly below the exact K; K − 1.01 is strictly below it.
use Rattle.basics.proofs.Common.{◌≡◌, ℕ, zero, suc, ◌+◌, ◌-◌, ◌*◌, ◌<◌, ◌≤◌, max, List, pos, ap, ◌∙◌, mul-le-mul_right, ne_of_gt, arith, dec_le, dec_lt, mul-sub, if_eq, if_ne}
use native.Mathlib.Bridge.{le_prop}
use Rattle.basics.proofs.LeastOf.{least_short}
use Rattle.sizes.specs.Sizes.{fineness, block_allowance}
use Rattle.guideline.specs.Block.{PC, seven, radicand, U, LT, Vh, y, largest, root, fine_i, a, fine_d, I, D, K, AcceptedBlock}
use Rattle.accuracy.specs.Fraction.{Fraction, ◌≤ᶠ◌, ◌<ᶠ◌, whole, hundredths, ratio, quarters, thrice, square_less, ≤ᶠ_trans}
use Rattle.accuracy.specs.Exact.{AtOrAboveI, AtOrAboveD, Fits, m_numerator, k_fraction, k_at, StrictlyBelowK, i_upwards, d_upwards}
use Rattle.guideline.proofs.Bounds.{radicand_rises, root_thrice}
use Rattle.accuracy.proofs.FractionBounds.{m_rises_over, numerator_rises, k_above, near_largest, near_root, k_near}
use Rattle.accuracy.proofs.Fractions.{nat, nat_is, nat_le, square_is, m_numerator_is, square_from, radicand_nat, third_below}
use Rattle.guideline.proofs.Figures.{q, q_is, q_least, v_sum, u_high, root_law, fine_d_law, fine_d_high, fine_d_third, i_law, d_law, k_law, k_none}

-- ---- small laws

max_mul : (x y m z : ℕ) → x * m ≤ z → y * m ≤ z → max x y * m ≤ z
max_mul x y m z p q = grind arith

decided : {v : ℕ} (t : Dec (0 < v)) (h : 0 < v) → t ≡ yes h
decided (yes k) h = ap yes (le_prop k h)
decided (no k) h = absurd (k h)

-- ---- K's fraction

pub k_at_some : (b : List ℕ) (d : Fraction) → 0 < U b → (h : 0 < Vh b) → k_at b d ≡ k_fraction (U b) (LT b) (Vh b) d (yes h)
unfolding k_at
k_at_some b d k h = if_ne _ (ne_of_gt k) ∙ ap (k_fraction (U b) (LT b) (Vh b) d) (decided (dec_lt 0 (Vh b)) h)

pub k_at_none : (b : List ℕ) (d : Fraction) → U b ≡ 0 → k_at b d ≡ whole 0 0
unfolding k_at
k_at_none b d e = if_eq _ e

module _ (b : List ℕ) (v : AcceptedBlock b) where
  pub v_pos : 0 < U b → 0 < Vh b
  v_pos h = omega (arith, u_high b v)

  -- M never falls: a d from V/3 on is a natural over its denominator
  pub m_rises :
      (d e : Fraction) → whole (Vh b) 0 ≤ᶠ thrice d → d ≤ᶠ e →
      m_numerator (Vh b) d * (e.denominator * e.denominator) ≤ m_numerator (Vh b) e * (d.denominator * d.denominator)
  m_rises d e low up =
      let z : whole 0 0 ≤ᶠ d = omega arith in
      rw (m_numerator_is (Vh b) d z, m_numerator_is (Vh b) e (≤ᶠ_trans (whole 0 0) d e z up))
      (m_rises_over (Vh b) (nat d) d.denominator (nat e) e.denominator (omega arith) (nat_le d e z up))

  -- K's fraction never falls
  pub fraction_rises : (d e : Fraction) → whole (Vh b) 0 ≤ᶠ thrice d → d ≤ᶠ e → k_at b d ≤ᶠ k_at b e
  fraction_rises d e low up =
      elim (dec_le 1 (U b)) [
        | yes h ↦
            let r = numerator_rises (48 * (U b * Vh b) + 6 * (LT b * Vh b)) (Vh b) _ d.denominator _ e.denominator (m_rises d e low up) in
            rw (k_at_some b d h (v_pos h), k_at_some b e h (v_pos h)) (omega arith)
        | no h ↦ rw (k_at_none b d (omega arith), k_at_none b e (omega arith)) (omega arith)
      ]

  -- ---- the finer I and D against the exact ones

  both_in : (fineness * (largest b + 2 * PC b) ≤ fine_i b) × (root b + fineness * (2 * PC b) ≤ fine_i b)
  unfolding fine_i
  both_in = omega arith

  -- the finer I is at or above the exact I, so what is below it is at most the finer I
  pub fine_i_at : AtOrAboveI b (hundredths (fine_i b) 0)
  fine_i_at =
      let from = square_from (fineness * fineness * q b) (root b) (fine_i b) (fineness * (2 * PC b)) (root_law b v).reaches both_in.1 in
      record { floor = omega (arith, both_in); square = rw (q_is b) (omega arith) }

  i_below : (i : Fraction) → ¬ AtOrAboveI b i → i ≤ᶠ hundredths (fine_i b) 0
  i_below i below =
      elim (dec_le (fineness * i.numerator⁺) (fine_i b * i.denominator + fineness * i.numerator⁻)) [
        | yes h ↦ omega arith
        | no h ↦ absurd (below (i_upwards b (hundredths (fine_i b) 0) i (omega arith) fine_i_at))
      ]

  -- the finer D is at or above the exact D
  pub fine_d_at : AtOrAboveD b (hundredths (fine_d b) 0)
  fine_d_at =
      record {
        natural = omega arith;
        below = λ i ni bi.
            let e = nat_is i ni in
            let m = i.denominator in
            let le : fineness * nat i ≤ fine_i b * m = omega (arith, i_below i bi) in
            omega (
              arith,
              square_is i.numerator⁺ i.numerator⁻ (nat i) e,
              ap (λ (z : ℕ). a b * m * z) e,
              radicand_rises (fineness * a b * m) le,
              mul-le-mul_right (m * m) (fine_d_law b v).reaches,
            );
        at_floor = omega (arith, radicand_rises (fineness * a b) both_in.0, (fine_d_law b v).reaches);
      }

  -- what fits is at most the finer D
  pub fits_below : (d : Fraction) → Fits b d → d ≤ᶠ hundredths (fine_d b) 0
  fits_below d f =
      elim (dec_le (fineness * d.numerator⁺) (fine_d b * d.denominator + fineness * d.numerator⁻)) [
        | yes h ↦ omega arith
        | no h ↦ absurd (f.within (record { smaller = hundredths (fine_d b) 0; less = omega arith; at = fine_d_at }))
      ]

  -- and at most V, as D is
  pub fits_high : (d : Fraction) → Fits b d → d ≤ᶠ whole (Vh b) 0
  fits_high d f = ≤ᶠ_trans d (hundredths (fine_d b) 0) (whole (Vh b) 0) (fits_below d f) (omega (arith, fine_d_high b v))

  -- ---- and so for the reported ones, which are no lower

  i_reported : hundredths (fine_i b) 0 ≤ᶠ whole (I b) 0
  i_reported = omega (arith, (i_law b v).reaches)

  pub i_at : AtOrAboveI b (whole (I b) 0)
  i_at = i_upwards b (hundredths (fine_i b) 0) (whole (I b) 0) i_reported fine_i_at

  d_reported : hundredths (fine_d b) 0 ≤ᶠ whole (D b) 0
  d_reported = omega (arith, (d_law b v).reaches)

  pub d_at : AtOrAboveD b (whole (D b) 0)
  d_at = d_upwards b (hundredths (fine_d b) 0) (whole (D b) 0) d_reported fine_d_at

  pub fits_reported : (d : Fraction) → Fits b d → d ≤ᶠ whole (D b) 0
  fits_reported d f = ≤ᶠ_trans d (hundredths (fine_d b) 0) (whole (D b) 0) (fits_below d f) d_reported

  -- ---- the reported K is not strictly below the exact K

  -- K's fraction at what fits is at most the reported K
  pub k_bound : (d : Fraction) → Fits b d → k_at b d ≤ᶠ whole (K b) 0
  k_bound d f =
      elim (dec_le 1 (U b)) [
        | yes h ↦
            let le =
            k_above (fineness * U b) (fineness * LT b) (fineness * Vh b) (fine_d b) (fineness * K b) (fineness * nat d) d.denominator
            (omega (arith, f.third)) (omega (arith, fits_below d f)) (k_law b v h).reaches in
            rw (k_at_some b d h (v_pos h)) (omega (arith, m_numerator_is (Vh b) d (omega (arith, f.third))))
        | no h ↦ rw (k_at_none b d (omega arith)) (omega arith)
      ]

  pub k_not_below : ¬ StrictlyBelowK b (whole (K b) 0)
  k_not_below s = omega (arith, k_bound s.d s.fits, s.below)

  -- ---- K − 1.01 is strictly below it

  -- what is at or above the exact D is at least V/3 ..
  pub at_third : (e : Fraction) → AtOrAboveD b e → Vh b * e.denominator ≤ 3 * nat e
  at_third e h =
      let c = 2 * PC b in
      elim (dec_le 1 (seven (y b))) [
        | yes p ↦
            let i : Fraction = ratio (pos (3 * c + seven (y b))) 3 (omega arith) in
            let sq = h.below i (omega arith) (λ t. third_below (q b) (seven (y b)) c (omega arith) (q_least b) p (rw (q_is b) at t.square)) in
            let le = root_thrice _ _ _ (radicand_nat (a b) (3 * c + seven (y b)) 3 (omega arith) e h.natural sq) in
            omega (arith, ap (λ (z : ℕ). z * e.denominator) (v_sum b v))
        | no p ↦
            let le = root_thrice _ _ _ (radicand_nat (a b) (largest b + c) 1 (omega arith) e h.natural h.at_floor) in
            let s0 : Vh b ≡ c + a b = omega (arith, v_sum b v) in
            omega (arith, ap (λ (z : ℕ). z * e.denominator) s0)
      ]

  -- .. and above the finer D less two hundredths
  at_near : (e : Fraction) → AtOrAboveD b e → fine_d b * e.denominator < fineness * nat e + 2 * e.denominator
  unfolding fine_i
  at_near e h = go (fine_d b) (λ c k. least_short (fine_d_law b v) c k) (dec_le (root b) (fineness * largest b))
    where
      go :
          (d : ℕ) → ((c : ℕ) → c < d → c * c < radicand (fineness * a b) (fine_i b)) → Dec (root b ≤ fineness * largest b) →
          d * e.denominator < fineness * nat e + 2 * e.denominator
      go zero short r = omega (arith, e.positive)
      go (suc c) short (yes r) =
          let j = largest b + 2 * PC b in
          let i : fine_i b ≡ fineness * j = omega arith in
          let le = radicand_nat (a b) j 1 (omega arith) e h.natural h.at_floor in
          let lt = near_largest (fineness * a b) (fineness * nat e) _ c e.positive (fineness * j) (rw i at (short c (omega arith))) (omega arith) in
          omega (arith, e.positive)
      go (suc c) short (no r) =
          let j = root b - 1 + fineness * (2 * PC b) in
          let i : fine_i b ≡ suc j = omega arith in
          let below : ¬ AtOrAboveI b (hundredths j 0) =
          λ t.
          let sq : quarters (pos (q b)) ≤ᶠ square_less (hundredths j 0) (2 * PC b) = rw (q_is b) at t.square in
          omega (arith, (root_law b v).first (root b - 1) (omega arith)) in
          let le = radicand_nat (a b) j fineness (omega arith) e h.natural (h.below (hundredths j 0) (omega arith) below) in
          let lt = near_root (fineness * a b) (fineness * nat e) _ c e.positive j (rw i at (short c (omega arith))) (omega arith) in
          omega arith

  -- so the larger of that and V/3 fits
  n₀ : ℕ
  n₀ = max (3 * fine_d b - 6) (fineness * Vh b)

  d₀ : Fraction
  d₀ = ratio (pos n₀) (3 * fineness) (omega arith)

  fits₀ : Fits b d₀
  unfolding d₀ n₀
  fits₀ =
      record {
        third = omega arith;
        within = λ s.
            let e = s.smaller in
            let m = e.denominator in
            let near : (3 * fine_d b - 6) * m ≤ 3 * fineness * nat e = omega (arith, mul-sub m (3 * fine_d b) 6, at_near e s.at) in
            omega (
              arith,
              nat_is e s.at.natural,
              s.less,
              max_mul (3 * fine_d b - 6) (fineness * Vh b) m (3 * fineness * nat e) near (omega (arith, at_third e s.at)),
            );
      }

  -- K less 1.01 or more is below K's fraction there
  pub k_near_by : (n : ℕ) → block_allowance ≤ n → StrictlyBelowK b (hundredths (fineness * K b) n)
  unfolding d₀ n₀
  k_near_by n more = record { d = d₀; fits = fits₀; below = go (dec_le 1 (U b)) (dec_le 2 (K b)) }
    where
      go : Dec (1 ≤ U b) → Dec (2 ≤ K b) → hundredths (fineness * K b) n <ᶠ k_at b d₀
      go (yes h) (yes k) =
          let j : ℕ = K b - 1 in
          let i : ℕ = fineness * j - 1 in
          let ke : K b ≡ j + 1 = omega arith in
          let kf : suc i ≡ fineness * j = omega arith in
          let low = fine_d_third b v in
          let near =
          k_near (fineness * U b) (fineness * LT b) (fineness * Vh b) (fine_d b) i n₀ (fine_d_high b v) (omega arith) (omega arith) (omega arith)
          (omega (arith, v_pos h)) (rw kf (least_short (k_law b v h) j (omega arith))) in
          rw (k_at_some b d₀ h (v_pos h)) (omega (arith, ap (λ (z : ℕ). z * Vh b) ke, ap (λ (z : ℕ). z * Vh b) kf, mul-le-mul_right (Vh b) more))
      go (yes h) (no k) =
          let ku : K b ≤ 1 = omega arith in
          rw (k_at_some b d₀ h (v_pos h)) (omega (arith, u_high b v, mul-le-mul_right (Vh b) ku, mul-le-mul_right (Vh b) more))
      go (no h) k = rw (k_at_none b d₀ (omega arith)) (omega (arith, k_none b v (omega arith)))
