-- The accuracy of every result, for all rows together. Assumes nothing.
use Rattle.basics.proofs.Common.{◌≡◌, ℕ, ◌+◌, ◌-◌, ◌*◌, ◌<◌, ◌≤◌, T, ap, arith, dec_le, Least}
use Rattle.amount.specs.Amount.{limit}
use Rattle.accuracy.specs.Fraction.{◌≤ᶠ◌, whole, square_less}
use Rattle.accuracy.proofs.Fractions.{square_is}
use Rattle.fluctuation.specs.Rows.{Row, row_of, base_of}
use Rattle.fluctuation.specs.Result.{reaches, factored_requirement}
use Rattle.fluctuation.specs.Exact.{twentieths, less_twentieths, times_dollars, AtOrAbove}
use Rattle.fluctuation.specs.Demand.{ResultDemand}
use Rattle.fluctuation.specs.Accepted.{AcceptedFluctuation}
use Rattle.fluctuation.proofs.LeastCents.{reaches_first, reaches_square, reached, least_reaches, b_reaches}
use Rattle.fluctuation.proofs.Rows.{Sound, sound, falls, up_to_threshold, above_threshold}

-- ---- a whole number that is at or above reaches, and the other way round

module _ (first second base b : ℕ) where
  -- the square of a difference
  square_of : (p q n : ℕ) → p ≡ q + n → (p * p + q * q) * base ≡ n * n * base + 2 * (p * q) * base
  square_of p q n e = omega (arith, ap (λ (z : ℕ). z * base) (square_is p q n e))

  fraction_reaches : (n m : ℕ) → twentieths (first * b) ≤ᶠ whole n m →
      whole (b * second * (b * second)) 0 ≤ᶠ times_dollars (square_less (less_twentieths (whole n m) (first * b)) 0) base →
      T (reaches first second base b (n - m))
  fraction_reaches n m h k =
      let e : 20 * n ≡ 20 * m + first * b + (20 * (n - m) - first * b) = omega arith in
      reached first second base b (n - m) (omega arith) (omega (arith, square_of _ _ _ e))

  reaches_fraction : (r : ℕ) → T (reaches first second base b r) →
      whole (b * second * (b * second)) 0 ≤ᶠ times_dollars (square_less (less_twentieths (whole r 0) (first * b)) 0) base
  reaches_fraction r t =
      let f = reaches_first first second base b r t in
      let e : 20 * r ≡ first * b + (20 * r - first * b) = omega arith in
      omega (arith, square_of _ _ _ e, reaches_square first second base b r t)

-- ---- a row that is sound

module _ (w : Row) (s : Sound w) (b face : ℕ) (b-small : b ≤ limit) (face-small : face ≤ limit) where
  abbrev r : ℕ
  r = factored_requirement w b face

  below_demand : base_of w b face ≤ 100 * w.threshold → ResultDemand w b face r
  below_demand h =
      let e : r ≡ b = up_to_threshold w b face h in
      record {
        at = record { up_to = λ k. omega arith; over_first = λ k. absurd (omega arith); square = λ k. absurd (omega arith) };
        near = λ a. let k = a.up_to h in absurd (omega arith);
        least = λ m a. let k = a.up_to h in omega arith;
        up_to = λ k. e;
        high = omega arith;
      }

  -- above the threshold the result is the least that reaches
  module _ (h : 100 * w.threshold < base_of w b face) where
    b_is_enough : T (reaches w.first w.second (base_of w b face) b b)
    b_is_enough = b_reaches _ _ _ _ (falls w s b face b-small face-small h)

    least_one : Least (reaches w.first w.second (base_of w b face) b) r
    least_one = rw (above_threshold w b face h) (least_reaches w.first w.second (base_of w b face) b b (omega arith) b_is_enough)

    -- no whole number below it is at or above the exact result
    none_less : (n m : ℕ) → AtOrAbove w b face (whole n m) → r ≤ n - m
    none_less n m a = least_one.first (n - m) (fraction_reaches w.first w.second (base_of w b face) b n m (a.over_first h) (a.square h))

    above_demand : ResultDemand w b face r
    above_demand =
        let t = least_one.passes in
        let f = reaches_first w.first w.second (base_of w b face) b r t in
        record {
          at =
              record {
                up_to = λ k. absurd (omega arith);
                over_first = λ k. omega arith;
                square = λ k. reaches_fraction w.first w.second (base_of w b face) b r t;
              };
          near = λ a. let o = a.over_first h in absurd (omega (arith, none_less r 1 a));
          least = λ m a. omega (arith, none_less m 0 a);
          up_to = λ k. absurd (omega arith);
          high = least_one.first b b_is_enough;
        }

  pub sound_demand : ResultDemand w b face r
  sound_demand = go (dec_le (base_of w b face) (100 * w.threshold))
    where
      go : Dec (base_of w b face ≤ 100 * w.threshold) → ResultDemand w b face r
      go (yes h) = below_demand h
      go (no h) = above_demand (omega arith)

-- ---- 'shown for all rows together'

pub result_demand : (n b face : ℕ) → AcceptedFluctuation n b face → ResultDemand (row_of n) b face (factored_requirement (row_of n) b face)
result_demand n b face v = sound_demand (row_of n) (sound n v.first_row v.last_row) b face v.requirement v.face_within
