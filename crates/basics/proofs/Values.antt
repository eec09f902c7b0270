-- The list of a function's values. A test of every place of a table at once: two functions whose values compute to the same list agree at
-- each place. Assumes nothing.
use Rattle.std.proofs.Common.{◌≡◌, ℕ, zero, suc, ◌<◌, List, [], ◌∷◌, length, get_or, sym, refl, ap, ◌∙◌, arith}

module _ {ℓ} {A : Type ℓ} where
  -- f 0, .., f (n − 1)
  unfoldable pub values : (ℕ → A) → ℕ → List A
  values f zero = []
  values f (suc n) = f 0 ∷ values (λ k. f (suc k)) n

  pub values_at : (f : ℕ → A) (d : A) (n k : ℕ) → k < n → get_or (values f n) k d ≡ f k
  unfolding values
  values_at f d zero k h = absurd (omega arith)
  values_at f d (suc n) zero h = refl
  values_at f d (suc n) (suc k) h = values_at (λ k. f (suc k)) d n k (omega arith)

  pub values_same : (f g : ℕ → A) (n : ℕ) → values f n ≡ values g n → (k : ℕ) → k < n → f k ≡ g k
  values_same f g n e k h = sym (values_at f (f 0) n k h) ∙ ap (λ (l : List A). get_or l k (f 0)) e ∙ values_at g (f 0) n k h

  -- a list of a known length by its elements: what is taken from it, stored into it or put behind it then computes
  by_values : (d : A) (l : List A) → l ≡ values (λ i. get_or l i d) (length l)
  unfolding values
  by_values d [] = refl
  by_values d (a ∷ l) = ap (λ (t : List A). a ∷ t) (by_values d l)

  pub is_values : (d : A) (n : ℕ) (l : List A) → length l ≡ n → l ≡ values (λ i. get_or l i d) n
  is_values d n l h = by_values d l ∙ ap (λ (k : ℕ). values (λ i. get_or l i d) k) h
