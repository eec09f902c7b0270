-- The least whole number that passes a test. Document 01 defines I, D, K, RO and the buffer by such a number.
--
-- No more has to be read of it than `least_law` of proofs/Halving: wherever some number below 2^64 passes and passing goes upwards,
-- it is the least that passes. It halves, so that it computes on long numerals; nothing after that law looks at how.
-- Assumes nothing.
use Rattle.std.specs.Prelude.{Bool}
use Rattle.std.proofs.Math.Bool.{true, false}
use Prim.Native.Nat.{ℕ, zero, suc, ◌+◌, ◌-◌, ◌^◌, ◌≤◌}
use Rattle.std.proofs.Math.Dec.{T}

-- the least number from b on, below b + 2 ^ k, that passes P
unfoldable pub least_from : (ℕ → Bool) → ℕ → ℕ → ℕ
least_from P zero b = b
least_from P (suc k) b = elim (P (b + (2 ^ k - 1))) [ true ↦ least_from P k b | false ↦ least_from P k (b + 2 ^ k) ]

-- the least whole number that passes P
abbrev pub least : (ℕ → Bool) → ℕ
least P = least_from P 64 0

-- `n` is the least that passes
pub record Least (P : ℕ → Bool) (n : ℕ) : Type 0 where
  pub passes : T (P n)
  pub first : (m : ℕ) → T (P m) → n ≤ m

-- `n` is the least of all whole numbers with the property `P`
pub record LeastWith (P : ℕ → Type 0) (n : ℕ) : Type 0 where
  pub reaches : P n
  pub first : (m : ℕ) → P m → n ≤ m

-- what passes goes on to pass
abbrev pub Upwards : (ℕ → Bool) → Type 0
Upwards P = (m n : ℕ) → m ≤ n → T (P m) → T (P n)
