-- What is true of the shares, after document 02, #112. proofs/Fairness proves it of every K and all margins that are not all zero. Assumes nothing.
use Rattle.std.specs.Prelude.{◌≡◌, ℕ, ◌+◌, ◌*◌, ◌≤◌, ◌<◌}
use Rattle.sizes.specs.Sizes.{parts}
use Rattle.apportion.specs.Shares.{total}

-- of K, the margins and the shares of parts 1 to 10
pub record Fair (k : ℕ) (margin share : ℕ → ℕ) : Type 0 where
  -- 'The shares total K exactly'
  pub whole : total share ≡ k
  -- a share is less than a cent above K × margin ÷ sum of margins: both are taken times that sum
  pub above : (p : ℕ) → 1 ≤ p → p ≤ parts → share p * total margin < k * margin p + total margin
  -- and less than a cent below it
  pub below : (p : ℕ) → 1 ≤ p → p ≤ parts → k * margin p < share p * total margin + total margin
  -- a part whose margin is zero gets nothing
  pub nothing : (p : ℕ) → 1 ≤ p → p ≤ parts → margin p ≡ 0 → share p ≡ 0
  -- of two parts with equal margins the lower number has the same share or a cent more
  pub alike : (p q : ℕ) → 1 ≤ p → p < q → q ≤ parts → margin p ≡ margin q → (share q ≤ share p) × (share p ≤ share q + 1)
