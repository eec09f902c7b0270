-- A property of every element of a list: of two lists put together, of the element at a place, of what a test lets pass. Assumes nothing.
use Rattle.std.proofs.Common.{◌≡◌, ℕ, zero, suc, Bool, true, List, [], ◌∷◌, ◌++◌, get_or}
use Rattle.basics.specs.Pick.{pick}
use Rattle.basics.specs.Each.{Each}
use Rattle.basics.proofs.Picks.{by_test}

module _ {ℓ} {A : Type ℓ} (P : A → Type 0) where
  pub each_append : (xs ys : List A) → Each P xs → Each P ys → Each P (xs ++ ys)
  each_append [] ys p q = q
  each_append (x ∷ xs) ys p q = (p.0, each_append xs ys p.1 q)

  -- past the end stands d
  pub each_at : (d : A) → P d → (xs : List A) → Each P xs → (k : ℕ) → P (get_or xs k d)
  each_at d z [] p k = z
  each_at d z (x ∷ xs) p zero = p.0
  each_at d z (x ∷ xs) p (suc k) = each_at d z xs p.1 k

  pub each_picked : (t : Bool) (xs : List A) → (t ≡ true → Each P xs) → Each P (pick t xs [])
  each_picked t xs h = by_test (Each P) t xs [] h (λ e. tt)
