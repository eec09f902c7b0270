-- Whether one of the numbers 1 to n passes a test: one number more, and what follows where none does. Assumes nothing.
use Rattle.std.proofs.Common.{◌≡◌, ℕ, zero, suc, ◌-◌, ◌≤◌, Bool, true, false, sym, refl, ◌∙◌, true≢false, arith}
use native.Mathlib.Decide.{ℕ_discrete}
use Rattle.basics.specs.First.{any_to}
use Rattle.basics.specs.Pick.{pick}
use Rattle.basics.proofs.Picks.{if_true, if_false, by_test}

module _ (P : ℕ → Bool) where
  pub none_yet : any_to P 0 ≡ false
  unfolding any_to
  none_yet = refl

  -- where none of the first n passes, the next one decides
  pub next_decides : (n : ℕ) → any_to P n ≡ false → any_to P (suc n) ≡ P (suc n)
  unfolding any_to
  next_decides n e = if_false _ e

  -- what one of the first passes goes on
  pub goes_on : (m n : ℕ) → m ≤ n → any_to P m ≡ true → any_to P n ≡ true
  unfolding any_to
  goes_on m zero h e = let z : m ≡ 0 = omega arith in absurd (true≢false (sym (rw z at e)))
  goes_on m (suc n) h e =
      elim (ℕ_discrete m (suc n)) [
        | yes q ↦ rw q at e
        | no q ↦ if_true _ (goes_on m n (omega arith) e)
      ]

  -- where one passes, one of the first does
  pub one_of : (b n : ℕ) → 1 ≤ b → b ≤ n → P b ≡ true → any_to P n ≡ true
  unfolding any_to
  one_of zero n l h e = absurd (omega arith)
  one_of (suc k) n l h e = goes_on (suc k) n h (by_test (λ t. t ≡ true) (any_to P k) true (P (suc k)) (λ q. refl) (λ q. e))

  -- where none passes, none of those before does, nor the last
  none_of_both : (n : ℕ) → any_to P (suc n) ≡ false → (any_to P n ≡ false) × (P (suc n) ≡ false)
  unfolding any_to
  none_of_both n = by_test (λ t. t ≡ false → (any_to P n ≡ false) × (P (suc n) ≡ false)) (any_to P n) true (P (suc n)) (λ q r. absurd (true≢false r)) (λ q r. (q, r))

  pub none_before : (n : ℕ) → any_to P (suc n) ≡ false → any_to P n ≡ false
  none_before n e = (none_of_both n e).0

  -- where none passes, each doesn't
  pub none_to : (n : ℕ) → any_to P n ≡ false → (b : ℕ) → 1 ≤ b → b ≤ n → P b ≡ false
  none_to zero e b l h = absurd (omega arith)
  none_to (suc n) e b l h =
      elim (ℕ_discrete b (suc n)) [
        | yes q ↦ rw q (none_of_both n e).1
        | no q ↦ none_to n (none_before n e) b l (omega arith)
      ]

  -- and where each doesn't, none passes
  pub none_of : (n : ℕ) → ((b : ℕ) → 1 ≤ b → b ≤ n → P b ≡ false) → any_to P n ≡ false
  none_of zero h = none_yet
  none_of (suc n) h = next_decides n (none_of n (λ b l k. h b l (omega arith))) ∙ h (suc n) (omega arith) (omega arith)

  -- one number more
  pub any_next : (n : ℕ) → 1 ≤ n → any_to P n ≡ pick (any_to P (n - 1)) true (P n)
  unfolding any_to
  any_next n h = grind arith

-- two tests that agree on 1 to n
pub any_same : (P Q : ℕ → Bool) (n : ℕ) → ((c : ℕ) → 1 ≤ c → c ≤ n → P c ≡ Q c) → any_to P n ≡ any_to Q n
unfolding any_to
any_same P Q zero h = refl
any_same P Q (suc n) h = rw (any_same P Q n (λ c l k. h c l (omega arith)), h (suc n) (omega arith) (omega arith))
