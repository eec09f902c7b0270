-- The total of a function over the numbers from 1 on, and how many of them pass a test. Assumes nothing.
use Rattle.std.specs.Prelude.{Bool, ℕ, zero, suc, ◌+◌}
use Rattle.basics.specs.Pick.{pick}

-- f 1 + .. + f n: of what the papers count from 1
unfoldable pub sum_to : (ℕ → ℕ) → ℕ → ℕ
sum_to f zero = 0
sum_to f (suc n) = sum_to f n + f (suc n)

-- one where the test holds, else nothing
unfoldable pub one : Bool → ℕ
one t = pick t 1 0

-- how many of the numbers 1 to n pass
abbrev pub count_to : (ℕ → Bool) → ℕ → ℕ
count_to P n = sum_to (λ k. one (P k)) n
