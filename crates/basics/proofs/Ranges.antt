-- What `any` and `contains` answer of numbers or of the items of a list is what `any_to` says of 1 to n. Assumes nothing.
use Rattle.std.proofs.Common.{◌≡◌, ℕ, zero, suc, ◌<◌, ◌≤◌, Bool, true, false, List, length, get_or, sym, ap, ◌∙◌, arith}
use Rattle.std.specs.List.{range_with_len, IsAnyAnswer}
use Rattle.std.proofs.lemmas.List.FromFn.{length-range_with_len, get_or-range_with_len}
use Rattle.basics.specs.First.{any_to}
use Rattle.basics.proofs.Existence.{one_of, none_of}

at_range : (n i : ℕ) → i < n → get_or (range_with_len 0 n) i 0 ≡ i
at_range n i h = get_or-range_with_len 0 n i 0 h ∙ omega arith

-- what `any` or `contains` answers of the items of a list, where P of k + 1 is the test of the k-th one
pub any_item : {A : Type 0} (d : A) (T : A → Bool) (P : ℕ → Bool) (l : List A) → ((k : ℕ) → k < length l → P (suc k) ≡ T (get_or l k d))
    → (r : Bool) → IsAnyAnswer (λ x b. T x ≡ b) l r → r ≡ any_to P (length l)
any_item d T P l same true (k, h, at) = sym (one_of P (suc k) (length l) (omega arith) (omega arith) (same k h ∙ at d))
any_item d T P l same false none =
    sym (none_of P (length l) (λ b m h. below b m h))
  where
    below : (b : ℕ) → 1 ≤ b → b ≤ length l → P b ≡ false
    below (suc k) m h = same k (omega arith) ∙ none k d (omega arith) (omega arith)
    below zero m h = absurd (omega arith)

-- what `any` answers of a test over the numbers below n
abbrev pub AnyBelow : (ℕ → Bool) → ℕ → Bool → Type 0
AnyBelow T n r = IsAnyAnswer (λ x b. T x ≡ b) (range_with_len 0 n) r

-- the test of i is that of i + 1 as the definition counts
pub any_below : (T P : ℕ → Bool) (n : ℕ) → ((i : ℕ) → i < n → P (suc i) ≡ T i) → (r : Bool) → AnyBelow T n r → r ≡ any_to P n
any_below T P n same r a =
    let m = length-range_with_len 0 n in
    any_item 0 T P (range_with_len 0 n) (λ i l. let h : i < n = omega (arith, l, m) in same i h ∙ sym (ap T (at_range n i h))) r a
    ∙ ap (any_to P) m
