-- Two blocks whose figures are near, none more than s apart: what is at or above the exact I of the one, with s added, is at or above the other's; so for the
-- exact D, and what fits the one, less s, fits the other unless it falls below a third of V. Assumes nothing.
-- In order: on naturals; the exact I and D; what fits.
use Rattle.basics.proofs.Common.{◌≡◌, ℕ, ◌+◌, ◌-◌, ◌*◌, ◌≤◌, List, pos, mul-le-mul_right, mul-le-mul_left, arith, dec_le}
use Rattle.guideline.specs.Block.{PC, Vh, largest, a, radicand, AcceptedBlock}
use Rattle.accuracy.specs.Fraction.{Fraction, ◌≤ᶠ◌, whole, quarters, thrice, square_less}
use Rattle.accuracy.specs.Exact.{AtOrAboveI, AtOrAboveD, Fits}
use Rattle.guideline.proofs.Bounds.{radicand_rises, root_twice}
use Rattle.accuracy.proofs.Fractions.{nat, nat_is, square_is, on_naturals, off_naturals}
use Rattle.guideline.proofs.Figures.{q, q_is}
use Rattle.accuracy.proofs.ExactFigures.{at_third}
use Rattle.sensitivity.specs.Movement.{less}
use Rattle.sensitivity.proofs.RaisedBlock.{Near}

-- x and t more
abbrev pub more : Fraction → ℕ → Fraction
more x t = record { numerator⁺ = x.numerator⁺ + t * x.denominator; numerator⁻ = x.numerator⁻; denominator = x.denominator; positive = x.positive }

-- ---- on naturals

-- the root of the radicand at i + h is at most h above that at i
radicand_near : (a i j d h : ℕ) → radicand a i ≤ d * d → j ≤ i + h → radicand a j ≤ (d + h) * (d + h)
radicand_near a i j d h k l = omega (arith, radicand_rises a l, mul-le-mul_left h (root_twice a i d k))

-- ---- the exact I and D

module _ (b c : List ℕ) (s : ℕ) (near : Near b c s) where
  -- i − s at or above the exact I of b: then i is at or above that of c
  i_near : (i : Fraction) → AtOrAboveI b (less i s) → AtOrAboveI c i
  i_near i h =
      let m = i.denominator in
      let w = i.numerator⁻ + 2 * PC b * m in
      let n = i.numerator⁺ - (w + s * m) in
      let up_is : i.numerator⁺ ≡ i.numerator⁻ + s * m + 2 * PC b * m + n = omega (arith, h.floor) in
      let sq : quarters (pos (q b)) ≤ᶠ square_less (less i s) (2 * PC b) = rw (q_is b) at h.square in
      let at_b : q b * (m * m) ≤ 4 * (n * n) = omega (arith, square_is i.numerator⁺ (i.numerator⁻ + s * m + 2 * PC b * m) n up_is) in
      let at_c = near.root_near n m at_b in
      record {
        floor = rw near.pc_same (omega (arith, h.floor, mul-le-mul_right m near.largest_near));
        square = rw (q_is c, near.pc_same) (omega (arith, square_is i.numerator⁺ w (n + s * m) (omega arith)));
      }

  -- e at or above the exact D of b: then e + s is at or above that of c
  d_near : (e : Fraction) → AtOrAboveD b e → AtOrAboveD c (more e s)
  d_near e h =
      record {
        natural = omega (arith, h.natural);
        below = λ i ni bi.
            let at = below i ni bi (dec_le (i.numerator⁻ + s * i.denominator) i.numerator⁺) in
            rw near.a_same (off_naturals (a b) i (more e s) (nat i) (y + s * n) (nat_is i ni) more_is at);
        at_floor = rw (near.a_same, near.pc_same) (off_naturals (a b) (whole floor_c 0) (more e s) floor_c (y + s * n) (omega arith) more_is at_floor);
      }
    where
      n : ℕ
      n = e.denominator

      y : ℕ
      y = nat e

      y_is : e.numerator⁺ ≡ e.numerator⁻ + y
      y_is = nat_is e h.natural

      more_is : (more e s).numerator⁺ ≡ e.numerator⁻ + (y + s * n)
      more_is = omega (arith, y_is)

      floor_c : ℕ
      floor_c = largest c + 2 * PC b

      floor_b : radicand (a b * 1 * n) ((largest b + 2 * PC b) * n) ≤ y * 1 * (y * 1)
      floor_b = on_naturals (a b) (whole (largest b + 2 * PC b) 0) e (largest b + 2 * PC b) y (omega arith) y_is h.at_floor

      at_floor : radicand (a b * 1 * n) (floor_c * n) ≤ (y + s * n) * 1 * ((y + s * n) * 1)
      at_floor =
          let l = mul-le-mul_right n near.largest_near in
          omega (arith, radicand_near (a b * 1 * n) ((largest b + 2 * PC b) * n) (floor_c * n) (y * 1) (s * n) floor_b (omega arith))

      below :
          (i : Fraction) → whole 0 0 ≤ᶠ i → ¬ AtOrAboveI c i → Dec (i.numerator⁻ + s * i.denominator ≤ i.numerator⁺) →
          radicand (a b * i.denominator * n) (nat i * n) ≤ (y + s * n) * i.denominator * ((y + s * n) * i.denominator)
      below i ni bi (yes k) =
          let m = i.denominator in
          let x = i.numerator⁺ - (i.numerator⁻ + s * m) in
          let at = on_naturals (a b) (less i s) e x y (omega arith) y_is (h.below (less i s) (omega arith) (λ t. bi (i_near i t))) in
          let l : nat i ≤ x + s * m = omega arith in
          let ln = mul-le-mul_right n l in
          omega (arith, radicand_near (a b * m * n) (x * n) (nat i * n) (y * m) (s * n * m) at (omega arith))
      below i ni bi (no k) =
          let m = i.denominator in
          let l : nat i ≤ s * m = omega arith in
          let ln = mul-le-mul_right n l in
          omega (arith, radicand_near (a b * m * n) 0 (nat i * n) (y * m) (s * n * m) (omega (arith, mul-le-mul_right (m * m) floor_b)) (omega arith))

-- ---- what fits

-- a third of V
abbrev pub third_of : List ℕ → Fraction
third_of b = record { numerator⁺ = Vh b; numerator⁻ = 0; denominator = 3; positive = omega arith }

pub third_fits : (b : List ℕ) → AcceptedBlock b → Fits b (third_of b)
third_fits b v = grind (arith, nat_is, at_third)

-- d fits c, and d − s is at least a third of the V of b: then d − s fits b
pub fits_near : (b c : List ℕ) (s : ℕ) → Near b c s → (d : Fraction) → Fits c d → whole (Vh b) 0 ≤ᶠ thrice (less d s) → Fits b (less d s)
fits_near b c s near d f third =
    record {
      third = third;
      within = λ t. f.within (record { smaller = more t.smaller s; less = omega (arith, t.less); at = d_near b c s near t.smaller t.at });
    }
