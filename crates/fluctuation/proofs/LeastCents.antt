-- The least whole number of cents at or above a requirement times a factor: the requirement reaches, and the code's number is the least.
-- Assumes nothing.
use Rattle.basics.proofs.Common.{◌≡◌, ℕ, ◌+◌, ◌-◌, ◌*◌, ◌^◌, ◌<◌, ◌≤◌, T, leb, ap, mul-le-mul_right, mul-le-mul, arith, le→leb, leb→le, least, Least, LeastOf, least_of}
use lib.Ieee.Fits.{and_i, and_l, and_r}
use Rattle.basics.proofs.Halving.{least_law}
use Rattle.fluctuation.specs.Result.{scale, reaches}
use Rattle.fluctuation.specs.Parts.{Falls, most_twentieths}

module _ (first second base b : ℕ) where
  -- B × second
  abbrev c : ℕ
  c = b * second

  abbrev excess : ℕ → ℕ
  excess r = 20 * r - first * b

  pub reaches_first : (r : ℕ) → T (reaches first second base b r) → first * b ≤ 20 * r
  unfolding reaches
  reaches_first r t = leb→le _ _ (and_l (leb (first * b) (20 * r)) _ t)

  pub reaches_square : (r : ℕ) → T (reaches first second base b r) → scale * (c * c) ≤ excess r * excess r * base
  unfolding reaches
  reaches_square r t = leb→le _ _ (and_r (leb (first * b) (20 * r)) _ t)

  pub reached : (r : ℕ) → first * b ≤ 20 * r → scale * (c * c) ≤ excess r * excess r * base → T (reaches first second base b r)
  unfolding reaches
  reached r h k = and_i (leb (first * b) (20 * r)) (leb (scale * (c * c)) (excess r * excess r * base)) (le→leb _ _ h) (le→leb _ _ k)

  squares_rise : (x y : ℕ) → x ≤ y → x * x * base ≤ y * y * base
  squares_rise x y h = mul-le-mul_right base (mul-le-mul h h)

  reaches_upwards : (m n : ℕ) → m ≤ n → T (reaches first second base b m) → T (reaches first second base b n)
  reaches_upwards m n h t =
      let e : excess m ≤ excess n = omega arith in
      reached n (omega (arith, reaches_first m t)) (omega (arith, reaches_square m t, squares_rise (excess m) (excess n) e))

  pub least_reaches : (w : ℕ) → w < 2 ^ 64 → T (reaches first second base b w) → Least (reaches first second base b) (least (reaches first second base b))
  least_reaches = least_law (reaches first second base b) reaches_upwards

  -- what reaches and is at most all that does is the least
  least_is : (r : ℕ) → r < 2 ^ 64 → T (reaches first second base b r) → ((m : ℕ) → T (reaches first second base b m) → r ≤ m) →
      r ≡ least (reaches first second base b)
  least_is r lt t first_one =
      let l = least_reaches r lt t in
      omega (arith, l.first r t, first_one _ l.passes)

  module _ (falls : Falls first second base b) where
    -- what the factor leaves to the root where it is 1
    abbrev most : ℕ
    most = (20 - first) * b

    most_is : 20 * b ≡ first * b + most
    most_is = omega (arith, scaled (20 - first) (omega (arith, falls.first_small)))
      where
        scaled : (k : ℕ) → 20 ≡ first + k → 20 * b ≡ first * b + k * b
        scaled k e = omega (arith, ap (λ (z : ℕ). z * b) e)

    most_square : scale * (c * c) ≤ most * most * base
    most_square = scaled (20 - first) falls.at_most_one
      where
        scaled : (k : ℕ) → scale * (second * second) ≤ k * k * base → scale * (c * c) ≤ k * b * (k * b) * base
        scaled k h = omega (arith, mul-le-mul_right (b * b) h)

    -- 'the factor is 1' at most: B itself reaches
    pub b_reaches : T (reaches first second base b b)
    b_reaches =
        let e : most ≤ excess b = omega (arith, most_is) in
        reached b (omega (arith, most_is)) (omega (arith, most_square, squares_rise most (excess b) e))

    most_small : most ≤ most_twentieths
    most_small = omega (arith, most_is, falls.amount)

    -- the radicand is at most the square of 2 × 10^15
    pub square_small : scale * (c * c) ≤ most_twentieths * most_twentieths * base
    square_small = omega (arith, most_square, squares_rise most most_twentieths most_small)

    module _ (x : ℕ) (is : x ≡ least (λ x. leb (scale * (c * c)) (x * x * base))) where
      root_law : LeastOf (scale * (c * c)) (λ x. x * x * base) x
      root_law = rw is (least_of (scale * (c * c)) (λ x. x * x * base) squares_rise most (omega (arith, most_small)) most_square)

      pub root_high : first * b + x ≤ 20 * b
      root_high = omega (arith, most_is, root_law.first most most_square)

      -- a number of cents that is first × B and x, over 20, rounded up
      pub rounded_up : (r : ℕ) → first * b + x ≤ 20 * r → 20 * r < first * b + x + 20 → r ≡ least (reaches first second base b)
      rounded_up r up less =
          let e : x ≤ excess r = omega arith in
          least_is r (omega (arith, root_high, falls.amount))
          (reached r (omega arith) (omega (arith, root_law.reaches, squares_rise x (excess r) e)))
          (λ m t. omega (arith, reaches_first m t, root_law.first (excess m) (reaches_square m t)))
