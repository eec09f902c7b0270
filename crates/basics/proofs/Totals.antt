-- A total over the numbers from 1 on: one number more, a total of numbers that none passes a bound, a total of zero, two totals compared. How many
-- of the numbers pass a test is the total of a one for each. Assumes nothing.
use Rattle.std.proofs.Common.{◌≡◌, ℕ, zero, suc, ◌+◌, ◌-◌, ◌*◌, ◌<◌, ◌≤◌, Bool, true, false, ltb, refl, add-one, arith, le-ltb, lt-ltb}
use native.Mathlib.Decide.{dec_le}
use Rattle.basics.specs.Total.{sum_to, one, count_to}
use Rattle.basics.proofs.Picks.{if_true, if_false}

module _ (f : ℕ → ℕ) where
  pub sum_next : (n : ℕ) → 1 ≤ n → sum_to f n ≡ sum_to f (n - 1) + f n
  unfolding sum_to
  sum_next n h = grind arith

  pub sum_most : (m : ℕ) → ((b : ℕ) → f b ≤ m) → (n : ℕ) → sum_to f n ≤ m * n
  unfolding sum_to
  sum_most m h zero = omega arith
  sum_most m h (suc n) = omega (arith, sum_most m h n, h (suc n))

  -- as a loop adds
  pub sum_step : (i : ℕ) → sum_to f (i + 1) ≡ sum_to f i + f (i + 1)
  unfolding sum_to
  sum_step i = rw add-one refl

  -- a number more is within the total of all
  pub sum_part : (n i : ℕ) → i < n → sum_to f i + f (suc i) ≤ sum_to f n
  unfolding sum_to
  sum_part zero i h = absurd (omega arith)
  sum_part (suc n) i h =
      elim (dec_le n i) [
        | yes p ↦ let e : i ≡ n = omega arith in rw e (omega arith)
        | no p ↦ omega (arith, sum_part n i (omega arith))
      ]

  -- a total is zero where each number is, and only there
  pub sum_zero : (n : ℕ) → ((k : ℕ) → 1 ≤ k → k ≤ n → f k ≡ 0) → sum_to f n ≡ 0
  unfolding sum_to
  sum_zero zero h = refl
  sum_zero (suc n) h = omega (arith, sum_zero n (λ k l m. h k l (omega arith)), h (suc n) (omega arith) (omega arith))

  pub zero_sum : (n : ℕ) → sum_to f n ≡ 0 → (k : ℕ) → 1 ≤ k → k ≤ n → f k ≡ 0
  zero_sum n z zero l h = absurd (omega arith)
  zero_sum n z (suc i) l h = omega (arith, sum_part n i (omega arith))

-- ---- two totals

module _ (f g : ℕ → ℕ) where
  pub sum_same : (n : ℕ) → ((k : ℕ) → 1 ≤ k → k ≤ n → f k ≡ g k) → sum_to f n ≡ sum_to g n
  unfolding sum_to
  sum_same zero e = refl
  sum_same (suc n) e = omega (arith, sum_same n (λ k l h. e k l (omega arith)), e (suc n) (omega arith) (omega arith))

  pub sum_le : (n : ℕ) → ((k : ℕ) → 1 ≤ k → k ≤ n → f k ≤ g k) → sum_to f n ≤ sum_to g n
  unfolding sum_to
  sum_le zero h = omega arith
  sum_le (suc n) h = omega (arith, sum_le n (λ k l m. h k l (omega arith)), h (suc n) (omega arith) (omega arith))

  -- one smaller number makes the total smaller
  pub sum_lt : (n w : ℕ) → 1 ≤ w → w ≤ n → f w < g w → ((k : ℕ) → f k ≤ g k) → sum_to f n < sum_to g n
  unfolding sum_to
  sum_lt zero w l m less h = absurd (omega arith)
  sum_lt (suc n) w l m less h =
      elim (dec_le w n) [
        | yes p ↦ omega (arith, sum_lt n w l p less h, h (suc n))
        | no p ↦ let e : w ≡ suc n = omega arith in omega (arith, rw e at less, sum_le n (λ k a b. h k))
      ]

  pub sum_add : (n : ℕ) → sum_to (λ k. f k + g k) n ≡ sum_to f n + sum_to g n
  unfolding sum_to
  sum_add zero = refl
  sum_add (suc n) = omega (arith, sum_add n)

pub sum_times : (c : ℕ) (f : ℕ → ℕ) (n : ℕ) → sum_to (λ k. c * f k) n ≡ c * sum_to f n
unfolding sum_to
sum_times c f zero = omega arith
sum_times c f (suc n) = omega (arith, sum_times c f n)

-- ---- one by a test, and how many pass

pub one_true : {t : Bool} → t ≡ true → one t ≡ 1
unfolding one
one_true e = if_true _ e

pub one_false : {t : Bool} → t ≡ false → one t ≡ 0
unfolding one
one_false e = if_false _ e

pub one_most : (t : Bool) → one t ≤ 1
one_most t = grind (arith, one_true, one_false)

-- a smaller number passes a test that a larger one passes
pub one_falls : (m : ℕ) {a b : ℕ} → a < b → one (ltb b m) ≤ one (ltb a m)
one_falls m {a} {b} h = grind (arith, one_false, le-ltb, one_true, lt-ltb, one_most)

-- of n numbers at most n pass
pub count_most : (P : ℕ → Bool) (n : ℕ) → count_to P n ≤ n
count_most P n = omega (arith, sum_most (λ k. one (P k)) 1 (λ k. one_most (P k)) n)
