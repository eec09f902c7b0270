-- The root rounded down: the greatest whole number whose square is at most the number. Assumes nothing.
use Rattle.basics.proofs.Common.{◌≡◌, ℕ, zero, suc, ◌+◌, ◌*◌, ◌^◌, ◌<◌, ◌≤◌, mul-le-mul, arith, dec_lt, LeastOf, least_of, lt_of_squares}
use Rattle.root.specs.Steps.{root_down, FloorRoot}

-- the first number whose next square is above m has a square that isn't
square_within : (m x : ℕ) → ((k : ℕ) → m < (k + 1) * (k + 1) → x ≤ k) → x * x ≤ m
square_within m zero first = omega arith
square_within m (suc k) first =
    elim (dec_lt m (suc k * suc k)) [
      | yes above ↦ absurd (omega (arith, first k (omega arith)))
      | no within ↦ omega arith
    ]

-- the law of the root rounded down
pub floor_root : (m : ℕ) → m < 2 ^ 124 → FloorRoot m (root_down m)
floor_root m h =
    let x = root_down m in
    let l : LeastOf (suc m) _ x = least_of (suc m) _ (λ j k h. omega (arith, mul-le-mul h h)) (2 ^ 63) (omega arith) (omega arith) in
    let up : m < (x + 1) * (x + 1) = omega (arith, l.reaches) in
    record {
      within = square_within m x (λ k h. l.first k (omega arith));
      next_above = up;
      greatest =
          λ k le.
          let lt : k < x + 1 = lt_of_squares k (x + 1) (omega arith) in
          omega arith;
    }

-- what is such a number is it
pub floor_is : (m r : ℕ) → m < 2 ^ 124 → r * r ≤ m → m < (r + 1) * (r + 1) → r ≡ root_down m
floor_is m r h low up =
    let f = floor_root m h in
    let x = root_down m in
    let lt : x < r + 1 = lt_of_squares x (r + 1) (omega (arith, f.within)) in
    omega (arith, f.greatest r low)
