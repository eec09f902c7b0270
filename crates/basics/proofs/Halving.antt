-- The search by halving finds the least number that passes. Assumes nothing.
use Rattle.std.proofs.Common.{◌≡◌, ℕ, zero, suc, ◌+◌, ◌-◌, ◌^◌, ◌<◌, ◌≤◌, Bool, true, false, T, refl, arith, pow_pos}
use Rattle.std.proofs.Math.Decide.{dec_le}
use Rattle.basics.specs.Least.{least_from, least, Least, Upwards}

module _ (P : ℕ → Bool) (up : Upwards P) where
  from_law : (k b w : ℕ) → w < b + 2 ^ k → T (P w) → ((m : ℕ) → T (P m) → b ≤ m) → Least P (least_from P k b)
  unfolding least_from
  from_law zero b w lt p low = record { passes = up w b (omega arith) p; first = low }
  from_law (suc k) b w lt p low = go (from_law k) (P (b + (2 ^ k - 1))) refl
    where
      go :
          ((b w : ℕ) → w < b + 2 ^ k → T (P w) → ((m : ℕ) → T (P m) → b ≤ m) → Least P (least_from P k b)) →
          (t : Bool) → P (b + (2 ^ k - 1)) ≡ t →
          Least P (elim t [ true ↦ least_from P k b | false ↦ least_from P k (b + 2 ^ k) ])
      go ih true e = ih b (b + (2 ^ k - 1)) (omega (arith, pow_pos k)) (rw e tt) low
      go ih false e = ih (b + 2 ^ k) w (omega arith) p (λ m q. past m q (dec_le (b + 2 ^ k) m))
        where
          past : (m : ℕ) → T (P m) → Dec (b + 2 ^ k ≤ m) → b + 2 ^ k ≤ m
          past m q (yes h) = h
          past m q (no h) = absurd (rw e at (up m (b + (2 ^ k - 1)) (omega arith) q))

  -- where some number below 2^64 passes, it is the least that does
  pub least_law : (w : ℕ) → w < 2 ^ 64 → T (P w) → Least P (least P)
  least_law w lt p = from_law 64 0 w (omega arith) p (λ m q. omega arith)
