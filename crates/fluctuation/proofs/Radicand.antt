-- The radicand as the code makes it: 40,000 × c² over the base, rounded up, from the quotient and the rest of c². Assumes nothing.
use Rattle.basics.proofs.Common.{◌≡◌, ℕ, suc, ◌+◌, ◌*◌, ◌^◌, ◌<◌, ◌≤◌, leb, lt_of_le_of_lt, mul-le-mul_right, lt_of_mul-lt-mul_right, mul-le-mul_left, arith, lit<, least, LeastOf, least_of}
use Rattle.basics.proofs.Common.{least_ceil, leb_same}
use Rattle.fluctuation.specs.Result.{scale}
use Rattle.fluctuation.specs.Parts.{most_twentieths}

module _ (c base q rest part : ℕ) (small : rest < base) (whole : q * base + rest ≡ c * c) (is : part ≡ least (λ x. leb (scale * rest) (base * x))) where
  -- what the rest adds is the least number whose product with the base reaches 40,000 × rest
  part_law : LeastOf (scale * rest) (λ x. base * x) part
  part_law = rw is (least_of (scale * rest) (λ x. base * x) (λ m k h. mul-le-mul_left base h) scale (omega arith) (omega arith))

  abbrev pub radicand : ℕ
  radicand = q * scale + part

  radicand_up : scale * (c * c) ≤ radicand * base
  radicand_up = omega (arith, part_law.reaches)

  radicand_less : radicand * base < scale * (c * c) + base
  radicand_less = omega (arith, least_ceil base (scale * rest) part (omega arith) part_law)

  -- a number is at least the radicand where its product with the base is at least 40,000 × c²
  pub radicand_within : (m : ℕ) → scale * (c * c) ≤ m * base → radicand ≤ m
  radicand_within m h =
      let l : radicand < suc m = lt_of_mul-lt-mul_right base (omega (arith, radicand_less)) in
      omega arith

  radicand_reached : (m : ℕ) → radicand ≤ m → scale * (c * c) ≤ m * base
  radicand_reached m h = omega (arith, radicand_up, mul-le-mul_right base h)

  pub root_same : least (λ x. leb radicand (x * x)) ≡ least (λ x. leb (scale * (c * c)) (x * x * base))
  root_same = λ i. least (λ x. leb_same radicand (x * x) (scale * (c * c)) (x * x * base) (radicand_reached (x * x)) (radicand_within (x * x)) i)

-- where the requirement is the base, c is the base times the second number, and the radicand is the base times 40,000 of its square
module _ (second base : ℕ) (positive : 0 < base) where
  abbrev pub own_radicand : ℕ
  own_radicand = scale * (second * second) * base

  abbrev own : ℕ
  own = base * second

  times_base : own_radicand * base ≡ scale * (own * own)
  times_base = omega arith

  own_reached : (m : ℕ) → own_radicand ≤ m → scale * (own * own) ≤ m * base
  own_reached m h = omega (arith, times_base, mul-le-mul_right base h)

  own_within : (m : ℕ) → scale * (own * own) ≤ m * base → own_radicand ≤ m
  own_within m h =
      let l : own_radicand < suc m = lt_of_mul-lt-mul_right base (omega (arith, times_base)) in
      omega arith

  pub own_root_same : least (λ x. leb own_radicand (x * x)) ≡ least (λ x. leb (scale * (own * own)) (x * x * base))
  own_root_same = λ i. least (λ x. leb_same own_radicand (x * x) (scale * (own * own)) (x * x * base) (own_reached (x * x)) (own_within (x * x)) i)

-- a number up to the square of 2 × 10^15 fits the root, and two words
pub in_root : (n : ℕ) → n ≤ most_twentieths * most_twentieths → n < 2 ^ 124
in_root n h = lt_of_le_of_lt h (lit< tt)

pub in_words : (n : ℕ) → n ≤ most_twentieths * most_twentieths → n < 2 ^ 128
in_words n h = lt_of_le_of_lt h (lit< tt)
