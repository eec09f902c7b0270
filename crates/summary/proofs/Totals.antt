-- The total of reported buffers against the exact total. A number strictly below a sheet's exact buffer is below the reported one, so a sum of such is
-- below the total; and each reported buffer less its allowance is strictly below, and these sum up to the total less the allowances. Assumes nothing.
use Rattle.basics.proofs.Common.{◌≡◌, ℕ, ◌+◌, ◌*◌, ◌<◌, ◌≤◌, List, [], ◌∷◌, ap, mul-le-mul_right, mul-lt-mul_of_pos_right, mul-pos, arith, dec_le, Each}
use Rattle.accuracy.specs.Fraction.{Fraction, ◌≤ᶠ◌, ◌<ᶠ◌, whole, plus}
use Rattle.guideline.specs.Buffer.{Sheet, buffer, AcceptedSheet}
use Rattle.accuracy.specs.ExactBuffer.{StrictlyBelowBuffer, buffer_downwards, millionths, allowance, less_allowance}
use Rattle.accuracy.proofs.Demand.{buffer_demand}
use Rattle.summary.specs.Exact.{Parts, sum_of, StrictlyBelowTotal, total_buffer, allowances, TotalDemand}

-- x − y
abbrev less : Fraction → Fraction → Fraction
less x y =
    record {
      numerator⁺ = x.numerator⁺ * y.denominator + y.numerator⁻ * x.denominator;
      numerator⁻ = x.numerator⁻ * y.denominator + y.numerator⁺ * x.denominator;
      denominator = x.denominator * y.denominator;
      positive = mul-pos x.positive y.positive;
    }

-- ---- at or above

-- what is strictly below the exact buffer is below the reported one
below_reported : (s : Sheet) → AcceptedSheet s → (x : Fraction) → StrictlyBelowBuffer s x → x <ᶠ whole (buffer s) 0
below_reported s a x k = go (dec_le (buffer s * x.denominator + x.numerator⁻ * 1) (x.numerator⁺ * 1 + 0 * x.denominator))
  where
    go : Dec (buffer s * x.denominator + x.numerator⁻ * 1 ≤ x.numerator⁺ * 1 + 0 * x.denominator) → x <ᶠ whole (buffer s) 0
    go (yes h) = absurd ((buffer_demand s a).at (buffer_downwards s (whole (buffer s) 0) x (omega arith) k))
    go (no h) = omega arith

-- sums of what is below, and at most, whole numbers
plus_below : (x y : Fraction) (a b : ℕ) → x <ᶠ whole a 0 → y ≤ᶠ whole b 0 → plus x y <ᶠ whole (a + b) 0
plus_below x y a b h k =
    let p : x.numerator⁺ < a * x.denominator + x.numerator⁻ = omega arith in
    let q : y.numerator⁺ ≤ b * y.denominator + y.numerator⁻ = omega arith in
    omega (arith, mul-lt-mul_of_pos_right p y.positive, mul-le-mul_right x.denominator q)

at_most : (ss : List Sheet) → Each AcceptedSheet ss → (p : Parts ss) → sum_of ss p ≤ᶠ whole (total_buffer ss) 0
unfolding total_buffer
at_most [] a p = omega arith
at_most (s ∷ ss) a p =
    omega (arith, plus_below p.0 (sum_of ss p.2) (buffer s) (total_buffer ss) (below_reported s a.0 p.0 p.1) (at_most ss a.1 p.2))

below_total : (s : Sheet) (ss : List Sheet) → Each AcceptedSheet (s ∷ ss) → (p : Parts (s ∷ ss)) → sum_of (s ∷ ss) p <ᶠ whole (total_buffer (s ∷ ss)) 0
unfolding total_buffer
below_total s ss a p = plus_below p.0 (sum_of ss p.2) (buffer s) (total_buffer ss) (below_reported s a.0 p.0 p.1) (at_most ss a.1 p.2)

-- ---- by less than the allowances

-- the reported buffers, each less its allowance
near_parts : (ss : List Sheet) → Each AcceptedSheet ss → Parts ss
near_parts [] a = tt
near_parts (s ∷ ss) a = (less_allowance s (buffer s), (buffer_demand s a.0).near, near_parts ss a.1)

-- p − q over m and r − t over d are together (p + P) − (q + Q) over m, where r − t over d is P − Q over m
joined : (p q m r t d P Q : ℕ) → r * m + Q * d ≡ P * d + t * m
    → (p * d + r * m) * m + (q + Q) * (m * d) ≡ (p + P) * (m * d) + (q * d + t * m) * m
joined p q m r t d P Q e = omega (arith, ap (λ (z : ℕ). z * m) e)

near_sum : (ss : List Sheet) (a : Each AcceptedSheet ss) → let x = sum_of ss (near_parts ss a) in
    x.numerator⁺ * millionths + allowances ss * x.denominator ≡ millionths * total_buffer ss * x.denominator + x.numerator⁻ * millionths
unfolding near_parts total_buffer allowances
near_sum [] a = omega arith
near_sum (s ∷ ss) a =
    let x = sum_of ss (near_parts ss a.1) in
    let e = joined (millionths * buffer s) (allowance s) millionths x.numerator⁺ x.numerator⁻ x.denominator (millionths * total_buffer ss) (allowances ss) (near_sum ss a.1) in
    omega (arith, e)

-- ---- the exact total is a cut

-- x + y − z, where y is at most z, is at most x
less_part : (x y z : Fraction) → y ≤ᶠ z → plus x (less y z) ≤ᶠ x
less_part x y z h = omega (arith, mul-le-mul_right (x.denominator * x.denominator) h)

-- where A − B over M is y, and x − y is added to it, it is x
moved : (A B M x⁺ x⁻ k y⁺ y⁻ l : ℕ) → y⁺ * M + B * l ≡ A * l + y⁻ * M
    → x⁺ * (M * (k * l)) + (B * (k * l) + (x⁻ * l + y⁺ * k) * M) * k ≡ (A * (k * l) + (x⁺ * l + y⁻ * k) * M) * k + x⁻ * (M * (k * l))
moved A B M x⁺ x⁻ k y⁺ y⁻ l e = omega (arith, ap (λ (z : ℕ). z * (k * k)) e)

-- a number u over K that is added to the first of two
added : (q m t n u K : ℕ) → (q * K + u * m) * n + t * (m * K) ≡ (q * n + t * m) * K + u * (m * n)
added q m t n u K = omega arith

-- what is at most a number strictly below the exact total of some sheets is strictly below it too
pub total_downwards : (s : Sheet) (ss : List Sheet) (x y : Fraction) → x ≤ᶠ y → StrictlyBelowTotal (s ∷ ss) y → StrictlyBelowTotal (s ∷ ss) x
total_downwards s ss x y h k =
    let p = k.parts.0 in
    let r = sum_of ss k.parts.2 in
    let K = x.denominator * y.denominator in
    let A = p.numerator⁺ * r.denominator + r.numerator⁺ * p.denominator in
    let B = p.numerator⁻ * r.denominator + r.numerator⁻ * p.denominator in
    let M = p.denominator * r.denominator in
    let e = moved A B M x.numerator⁺ x.numerator⁻ x.denominator y.numerator⁺ y.numerator⁻ y.denominator (omega (arith, k.low, k.high)) in
    let n⁺ = added p.numerator⁺ p.denominator r.numerator⁺ r.denominator (less x y).numerator⁺ K in
    let n⁻ = added p.numerator⁻ p.denominator r.numerator⁻ r.denominator (less x y).numerator⁻ K in
    let d : p.denominator * K * r.denominator ≡ M * K = omega arith in
    record {
      parts = (plus p (less x y), buffer_downwards s (plus p (less x y)) p (less_part p x y h) k.parts.1, k.parts.2);
      low = rw (n⁺, n⁻, d) (omega (arith, e));
      high = rw (n⁺, n⁻, d) (omega (arith, e));
    }

-- ---- both

pub total_demand : (s : Sheet) (ss : List Sheet) → Each AcceptedSheet (s ∷ ss) → TotalDemand (s ∷ ss) (total_buffer (s ∷ ss))
total_demand s ss a =
    record {
      at = λ k. omega (arith, k.low, below_total s ss a k.parts);
      near = record { parts = near_parts (s ∷ ss) a; low = omega (arith, near_sum (s ∷ ss) a); high = omega (arith, near_sum (s ∷ ss) a) };
    }
