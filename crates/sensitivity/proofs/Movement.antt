-- The exact and the reported K of two blocks that differ by t cents of one IR. For a d that fits the one, d less 2t or a third of V fits the other, and
-- K's fraction there is at most t lower; so each number strictly below the one exact K is, less t, strictly below the other. Assumes nothing.
-- In order: K's fraction at what fits; from b to c, whose IR is t cents above, and back; the exact and the reported K.
use Rattle.basics.proofs.Common.{◌≡◌, ℕ, zero, suc, ◌+◌, ◌-◌, ◌*◌, ◌<◌, ◌≤◌, List, length, sym, ap, subst, mul-le-mul_right, lt_of_mul-lt-mul_right, mul-lt-mul_of_pos_right, arith, dec_le, set_out}
use Rattle.amount.specs.Amount.{limit}
use Rattle.guideline.specs.Block.{ir, U, LT, Vh, M, K, AcceptedBlock}
use Rattle.sizes.specs.Sizes.{risks, block_numbers, fineness}
use Rattle.accuracy.specs.Fraction.{Fraction, ◌≤ᶠ◌, ◌<ᶠ◌, whole, hundredths, thrice}
use Rattle.accuracy.specs.Exact.{Fits, m_numerator, k_at, StrictlyBelowK}
use Rattle.accuracy.proofs.Fractions.{nat, nat_is, m_numerator_is}
use Rattle.guideline.proofs.Figures.{v_is, k_high}
use Rattle.accuracy.proofs.ExactFigures.{k_at_some, k_at_none, v_pos, fits_high, k_bound, k_near_by}
use Rattle.sensitivity.specs.Movement.{raised, less, Movement}
use Rattle.sensitivity.proofs.RaisedBlock.{Near, within_accepted, accepted_within, u_moves, lt_stays, none_rises, none_falls}
use Rattle.sensitivity.proofs.NearBlocks.{more, third_of, third_fits, fits_near}
use Rattle.sensitivity.proofs.Fractions.{falls_over, rises_over, falls_less, falls_third, rises_less, rises_third}

-- ---- K's fraction at what fits

-- b's K's fraction at d is at most t above that of c at some d that fits c
record Reached (b c : List ℕ) (t : ℕ) (d : Fraction) : Type 0 where
  other : Fraction
  fits : Fits c other
  apart : k_at b d ≤ᶠ more (k_at c other) t

-- x is below y, and y at most t above z: x less t is below z
carried : (x y z : Fraction) (t : ℕ) → x <ᶠ y → y ≤ᶠ more z t → less x t <ᶠ z
carried x y z t h k = lt_of_mul-lt-mul_right y.denominator (omega (arith, mul-lt-mul_of_pos_right h z.positive, mul-le-mul_right x.denominator k))

module _ (b : List ℕ) (v : AcceptedBlock b) where
  -- what fits is a natural over its denominator, from V/3 to V
  fits_nat : (d : Fraction) → Fits b d → (d.numerator⁺ ≡ d.numerator⁻ + nat d) × (Vh b * d.denominator ≤ 3 * nat d) × (nat d ≤ Vh b * d.denominator)
  fits_nat d f = grind (arith, nat_is, fits_high)

  k_at_natural : (d : Fraction) → whole 0 0 ≤ᶠ k_at b d
  k_at_natural d = go (dec_le 1 (U b))
    where
      go : Dec (1 ≤ U b) → whole 0 0 ≤ᶠ k_at b d
      go (yes h) = rw (k_at_some b d h (v_pos b v h)) (omega arith)
      go (no h) = rw (k_at_none b d (omega arith)) (omega arith)

-- a d that fits b falls by 2t, but not below a third of c's V: K's fractions are compared at these two
module _ (b c : List ℕ) (t : ℕ) (v : AcceptedBlock b) (w : AcceptedBlock c) (near : Near c b (2 * t)) (d : Fraction) (f : Fits b d) where
  reached :
      (whole (Vh c) 0 ≤ᶠ thrice (less d (2 * t)) → k_at b d ≤ᶠ more (k_at c (less d (2 * t))) t) →
      (3 * nat d ≤ Vh c * d.denominator + 3 * (2 * t * d.denominator) → k_at b d ≤ᶠ more (k_at c (third_of c)) t) → Reached b c t d
  reached lower third = go (dec_le (Vh c * d.denominator + 3 * (2 * t * d.denominator)) (3 * nat d))
    where
      go : Dec (Vh c * d.denominator + 3 * (2 * t * d.denominator) ≤ 3 * nat d) → Reached b c t d
      go (yes k) =
          let at = fits_nat b v d f in
          let l : whole (Vh c) 0 ≤ᶠ thrice (less d (2 * t)) = omega arith in
          record { other = less d (2 * t); fits = fits_near c b (2 * t) near d f l; apart = lower l }
      go (no k) = record { other = third_of c; fits = third_fits c w; apart = third (omega arith) }

-- ---- from b to c, whose IR is t cents above, and back

module _ (b c : List ℕ) (t : ℕ) (v : AcceptedBlock b) (w : AcceptedBlock c) (u-is : U c ≡ U b + t) (l-is : LT c ≡ LT b) where
  moved : Vh c ≡ Vh b + 2 * t
  moved = omega (arith, v_is b v, v_is c w)

  v_is_c : 2 * U c ≡ Vh c + LT b
  v_is_c = omega (arith, v_is c w)

  u_pos : 1 ≤ U b → 1 ≤ U c
  u_pos h = omega arith

  falls : Near c b (2 * t) → (d : Fraction) → Fits b d → Reached b c t d
  falls near d f = go (dec_le 1 (U b))
    where
      s : ℕ
      s = d.denominator

      m_is : m_numerator (Vh b) d ≡ M (Vh b * s) (nat d)
      m_is = m_numerator_is (Vh b) d (omega (arith, f.third))

      over :
          1 ≤ U b → (e : Fraction) →
          let r = e.denominator * e.denominator in
          m_numerator (Vh b) d * Vh c * r ≤ m_numerator (Vh c) e * Vh b * (s * s) + 108 * (t * Vh b * Vh c * (s * s * r)) → k_at b d ≤ᶠ more (k_at c e) t
      over h e k =
          let r = e.denominator * e.denominator in
          rw (k_at_some b d h (v_pos b v h), k_at_some c e (u_pos h) (v_pos c w (u_pos h)), l-is)
          (falls_over (U b) (U c) (LT b) (Vh b) (Vh c) t (v_is b v) v_is_c moved (m_numerator (Vh b) d) (m_numerator (Vh c) e) (s * s) r k)

      go : Dec (1 ≤ U b) → Reached b c t d
      go (yes h) =
          let at = fits_nat b v d f in
          reached b c t v w near d f
          (λ third.
          let e = less d (2 * t) in
          let n-is : nat d ≡ nat e + 2 * t * s = omega arith in
          let le : nat e + 2 * t * s ≤ Vh b * s = omega arith in
          over h e (rw (m_is, m_numerator_is (Vh c) e (omega (arith, third)), n-is) (falls_less (Vh b) (Vh c) t s moved (nat e) le)))
          (λ short.
          let w-is = ap (λ (z : ℕ). z * s) moved in
          over h (third_of c) (rw m_is (falls_third (Vh b) (Vh c) t s moved (nat d) (3 * 3) _ at.1 at.2 (omega arith))))
      -- where U is 0, so is K
      go (no h) =
          record {
            other = third_of c;
            fits = third_fits c w;
            apart = rw (k_at_none b d (omega arith)) (omega (arith, k_at_natural c w (third_of c)));
          }

  rises : Near b c (2 * t) → (d : Fraction) → Fits c d → Reached c b t d
  rises near d f = go (dec_le 1 (U b))
    where
      s : ℕ
      s = d.denominator

      m_is : m_numerator (Vh c) d ≡ M (Vh c * s) (nat d)
      m_is = m_numerator_is (Vh c) d (omega (arith, f.third))

      over :
          1 ≤ U b → (e : Fraction) →
          let r = e.denominator * e.denominator in
          m_numerator (Vh c) d * Vh b * r ≤ m_numerator (Vh b) e * Vh c * (s * s) + 12 * (t * Vh b * Vh c * (r * (s * s))) → k_at c d ≤ᶠ more (k_at b e) t
      over h e k =
          let r = e.denominator * e.denominator in
          rw (k_at_some b e h (v_pos b v h), k_at_some c d (u_pos h) (v_pos c w (u_pos h)), l-is)
          (rises_over (U b) (U c) (LT b) (Vh b) (Vh c) t (v_is b v) v_is_c moved (m_numerator (Vh b) e) (m_numerator (Vh c) d) r (s * s) k)

      go : Dec (1 ≤ U b) → Reached c b t d
      go (yes h) =
          let at = fits_nat c w d f in
          reached c b t w v near d f
          (λ third.
          let e = less d (2 * t) in
          let n-is : nat d ≡ nat e + 2 * t * s = omega arith in
          let le : nat e ≤ Vh b * s = omega (arith, ap (λ (z : ℕ). z * s) moved) in
          over h e (rw (m_is, m_numerator_is (Vh b) e (omega (arith, third)), n-is) (rises_less (Vh b) (Vh c) t s moved (nat e) le)))
          (λ short. over h (third_of b) (rw m_is (rises_third (Vh b) (Vh c) t s moved (nat d) (3 * 3) _ at.1 at.2 (omega arith))))
      -- where U is 0, the raised K is at most the raised U
      go (no h) =
          let most : K c ≤ t = omega (arith, k_high c w) in
          record {
            other = third_of b;
            fits = third_fits b v;
            apart = rw (k_at_none b (third_of b) (omega arith)) (omega (arith, k_bound c w d f, mul-le-mul_right (k_at c d).denominator most));
          }

-- ---- the exact and the reported K

-- each fraction that b reaches, c reaches to within t
carries :
    (b c : List ℕ) (t : ℕ) → ((d : Fraction) → Fits b d → Reached b c t d) → (x : Fraction) → StrictlyBelowK b x →
    StrictlyBelowK c (less x t)
carries b c t reach x h =
    let r = reach h.d h.fits in
    record { d = r.other; fits = r.fits; below = carried x (k_at b h.d) (k_at c r.other) t h.below r.apart }

-- so the reported K of b is less than t + 2 above that of c: K − 2 is strictly below the exact K, as K − 1.01 is, and no K is
reported :
    (b c : List ℕ) (t : ℕ) → AcceptedBlock b → AcceptedBlock c → ((x : Fraction) → StrictlyBelowK b x → StrictlyBelowK c (less x t)) →
    K b < K c + t + 2
reported b c t v w exact =
    let h = exact (hundredths (fineness * K b) (fineness * 2)) (k_near_by b v (fineness * 2) (omega arith)) in
    let f = k_at c h.d in
    let k : K b * f.denominator < (K c + t + 2) * f.denominator = omega (arith, h.below, k_bound c w h.d h.fits) in
    lt_of_mul-lt-mul_right f.denominator k

moves :
    (b c : List ℕ) (t : ℕ) → AcceptedBlock b → AcceptedBlock c →
    ((d : Fraction) → Fits b d → Reached b c t d) → ((d : Fraction) → Fits c d → Reached c b t d) → Movement b c t
moves b c t v w down up =
    record {
      exact_falls = carries b c t down;
      exact_rises = carries c b t up;
      reported_rises = omega (arith, reported c b t w v (carries c b t up));
      reported_falls = omega (arith, reported b c t v w (carries b c t down));
    }

-- a list that ends before IR(i), which no call has, is left as it is
stays : (b : List ℕ) (t : ℕ) → AcceptedBlock b → Movement b b t
stays b t v = moves b b t v v same same
  where
    same : (d : Fraction) → Fits b d → Reached b b t d
    same d f = record { other = d; fits = f; apart = omega arith }

-- 'Show this for every accepted block: if one IR(i) is raised by t cents, all else kept and the block still accepted, ..'
pub block_moves : (b : List ℕ) (i t : ℕ) → 1 ≤ i → i ≤ risks → AcceptedBlock b → AcceptedBlock (raised b i t) → Movement b (raised b i t) t
unfolding raised
block_moves b zero t low high v w = absurd (omega arith)
block_moves b (suc k) t low high v w = go (dec_le (length b) (2 * suc k - 2))
  where
    go : Dec (length b ≤ 2 * suc k - 2) → Movement b (raised b (suc k) t) t
    go (yes h) = subst (λ (c : List ℕ). Movement b c t) (sym (set_out b (2 * suc k - 2) (ir b (suc k) + t) h)) (stays b t v)
    go (no h) =
        let within : k < risks = omega arith in
        let long : 2 * k < length b = omega arith in
        moves b (raised b (suc k) t) t v w
        (falls b _ t v w (u_moves b k t within long) (lt_stays b k t within long) (none_falls b k t within long v))
        (rises b _ t v w (u_moves b k t within long) (lt_stays b k t within long) (none_rises b k t within long v))

-- of a block's 17 numbers the raised block is accepted where IR(i) + t is within the limit, and only there
module _ (b : List ℕ) (long : length b ≡ block_numbers) (t : ℕ) where
  pub raised_accepted : (i : ℕ) → 1 ≤ i → i ≤ risks → AcceptedBlock b → ir b i + t ≤ limit → AcceptedBlock (raised b i t)
  raised_accepted zero low high = absurd (omega arith)
  raised_accepted (suc k) low high = within_accepted b k t (omega arith) (omega arith)

  pub accepted_raise : (i : ℕ) → 1 ≤ i → i ≤ risks → AcceptedBlock (raised b i t) → ir b i + t ≤ limit
  accepted_raise zero low high = absurd (omega arith)
  accepted_raise (suc k) low high = accepted_within b k t (omega arith) (omega arith)
