-- The steps of a root found one binary digit at a time, after document 02, #107: 'after step j the held value is the root, rounded down, of
-- the leading 2j digits of the radicand, its length padded in front to an even number. The steps equal half that padded length, 0 for
-- radicand 0'. Assumes nothing.
use Rattle.std.specs.Prelude.{◌≡◌, ℕ, zero, suc, ◌+◌, ◌-◌, ◌*◌, ◌/◌, ◌%◌, ◌^◌, ◌≤◌, ◌<◌, ltb}
use Rattle.basics.specs.Least.{least}

-- the binary digits of n, of which there are at most `fuel`
abbrev pub length_in : (fuel n : ℕ) → ℕ
length_in zero n = 0
length_in (suc f) zero = 0
length_in (suc f) (suc k) = suc (length_in f (suc k / 2))

-- how many binary digits n has, 0 for 0
unfoldable pub binary_length : ℕ → ℕ
binary_length n = length_in n n

-- k is how many binary digits n has, with no word of how they are counted: `has_length` of proofs/Lengths says it of `binary_length`
pub record HasLength (n k : ℕ) : Type 0 where
  pub below : n < 2 ^ k
  pub at_least : 0 < n → 2 ^ (k - 1) ≤ n
  pub none : n ≡ 0 → k ≡ 0

-- half of it, 'padded in front to an even number'
unfoldable pub steps : ℕ → ℕ
steps n = (binary_length n + 1) / 2

-- 'the leading 2j digits of the radicand', so padded
abbrev pub leading : (n j : ℕ) → ℕ
leading n j = n / 4 ^ (steps n - j)

-- 'the root, rounded down': the least whole number such that the square of the next one is above m
abbrev pub root_down : ℕ → ℕ
root_down m = least (λ r. ltb m ((r + 1) * (r + 1)))

-- r is the greatest whole number whose square is at most m: `floor_root` of proofs/LowerRoots says it of `root_down`, for every m below 2^124
pub record FloorRoot (m r : ℕ) : Type 0 where
  pub within : r * r ≤ m
  pub next_above : m < (r + 1) * (r + 1)
  pub greatest : (k : ℕ) → k * k ≤ m → k ≤ r

-- 'after step j the held value'
abbrev pub held_after : (n j : ℕ) → ℕ
held_after n j = root_down (leading n j)

-- what is held after step j: the value, what its square leaves of the leading digits, and the digits that are not yet brought down, in two words,
-- two binary digits below the top
pub record After (n j window root rest : ℕ) : Type 0 where
  pub held : root ≡ held_after n j
  pub remains : root * root + rest ≡ leading n j
  pub to_come : window ≡ n % 4 ^ (steps n - j) * 4 ^ (63 - (steps n - j))

-- two words that hold a radicand of at most 124 binary digits, its padded length two binary digits below the top
pub record Aligned (n count window : ℕ) : Type 0 where
  pub count_is : count ≡ steps n
  pub at_top : window ≡ n * 4 ^ (63 - count)
  pub fits : n < 2 ^ 124
