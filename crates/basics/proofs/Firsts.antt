-- The first place that passes a test: what makes a place the first, and what a search that has come to i says of it. Assumes nothing.
use Rattle.std.proofs.Common.{◌≡◌, ℕ, zero, suc, ◌+◌, ◌<◌, ◌≤◌, Bool, true, false, arith}
use native.Mathlib.Decide.{dec_le, dec_lt}
use Rattle.basics.specs.First.{first_from, first}
use Rattle.basics.proofs.Picks.{by_test}

-- r is the first of the n places from i on that passes, or the end of them
pub record FirstPassing (P : ℕ → Bool) (i n r : ℕ) : Type 0 where
  pub low : i ≤ r
  pub high : r ≤ i + n
  pub before : (k : ℕ) → i ≤ k → k < r → P k ≡ false
  pub passes : r < i + n → P r ≡ true

pub first_from_passes : (P : ℕ → Bool) (i n : ℕ) → FirstPassing P i n (first_from P i n)
unfolding first_from
first_from_passes P i zero = record { low = omega arith; high = omega arith; before = λ k l h. absurd (omega arith); passes = λ h. absurd (omega arith) }
first_from_passes P i (suc n) =
    let f = first_from_passes P (suc i) n in
    by_test (FirstPassing P i (suc n)) (P i) _ _ (λ e. record { low = omega arith; high = omega arith; before = λ k l h. absurd (omega arith); passes = λ h. e })
    (λ e.
    record {
      low = omega (arith, f.low);
      high = omega (arith, f.high);
      before = λ k l h. elim (dec_le (suc i) k) [ yes q ↦ f.before k q h | no q ↦ let z : k ≡ i = omega arith in rw z e ];
      passes = λ h. f.passes (omega arith);
    })

-- there is one such place
pub first_unique : (P : ℕ → Bool) (n r : ℕ) → FirstPassing P 0 n r → first P n ≡ r
first_unique P n r f = grind (arith, first_from_passes, dec_lt)

-- where none is found, none passes
pub none_passes : (P : ℕ → Bool) (n : ℕ) → n ≤ first P n → (k : ℕ) → k < n → P k ≡ false
none_passes P n e k h = (first_from_passes P 0 n).before k (omega arith) (omega arith)

-- a search that stands at i of n places has found none before
pub record Sought (P : ℕ → Bool) (n i : ℕ) : Type 0 where
  pub within : i ≤ n
  pub before : (k : ℕ) → k < i → P k ≡ false

module _ (P : ℕ → Bool) (n : ℕ) where
  pub sought_found : (i : ℕ) → i < n → P i ≡ true → Sought P n i → first P n ≡ i
  sought_found i h e s = first_unique P n i (record { low = omega arith; high = omega arith; before = λ k l q. s.before k q; passes = λ q. e })

  pub sought_none : (i : ℕ) → n ≤ i → Sought P n i → first P n ≡ i
  sought_none i h s =
      first_unique P n i
      (record { low = omega arith; high = omega (arith, s.within); before = λ k l q. s.before k q; passes = λ q. absurd (omega arith) })
