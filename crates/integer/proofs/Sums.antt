-- Laws of sums of the first n values of a function to the integers. Assumes nothing.
use Rattle.basics.proofs.Common.{◌≡◌, ℕ, zero, suc, ◌+◌, ◌*◌, ◌<◌, ℤ, ◌+ℤ◌, ◌*ℤ◌, sym, refl, ap, ◌∙◌, add-zero, add-suc, arith, +ℤ_idr, +ℤ_assoc, *ℤ-zero}
use native.Mathlib.Nat.{zero-mul, suc-mul}
use Rattle.integer.specs.Sum.{sum}
use Rattle.integer.proofs.Integer.{ring, *ℤ-+ℤ}

pub sum_same : (n : ℕ) (f g : ℕ → ℤ) → ((k : ℕ) → k < n → f k ≡ g k) → sum n f ≡ sum n g
unfolding sum
sum_same zero f g e = refl
sum_same (suc n) f g e = λ i. sum_same n f g (λ k h. e k (omega arith)) i +ℤ e n (omega arith) i

module _ (f : ℕ → ℤ) where
  pub sum_add : (g : ℕ → ℤ) (n : ℕ) → sum n (λ k. f k +ℤ g k) ≡ sum n f +ℤ sum n g
  unfolding sum
  sum_add g zero = refl
  sum_add g (suc n) = rw (sum_add g n) (simp ring)

  pub sum_times : (c : ℤ) (n : ℕ) → sum n (λ k. c *ℤ f k) ≡ c *ℤ sum n f
  unfolding sum
  sum_times c zero = sym (*ℤ-zero c)
  sum_times c (suc n) = ap (λ (z : ℤ). z +ℤ c *ℤ f n) (sum_times c n) ∙ sym (*ℤ-+ℤ c (sum n f) (f n))

  pub sum_on : (m n : ℕ) → sum (m + n) f ≡ sum m f +ℤ sum n (λ k. f (m + k))
  unfolding sum
  sum_on m zero = rw add-zero (sym (+ℤ_idr (sum m f)))
  sum_on m (suc n) = rw (add-suc, sum_on m n) (+ℤ_assoc (sum m f) (sum n (λ k. f (m + k))) (f (m + n)))

  -- a table with w columns, row by row
  pub sum_rows : (w n : ℕ) → sum (n * w) f ≡ sum n (λ i. sum w (λ j. f (i * w + j)))
  unfolding sum
  sum_rows w zero = rw zero-mul
  sum_rows w (suc n) = rw suc-mul (sum_on (n * w) w ∙ ap (λ (z : ℤ). z +ℤ sum w (λ j. f (n * w + j))) (sum_rows w n))
