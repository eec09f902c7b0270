-- The 49 products one after the other are the double sum, row by row: a row's products follow one another, and a row begins where the one before it
-- ends. Assumes nothing.
use Rattle.basics.proofs.Common.{◌≡◌, ℕ, zero, suc, ◌+◌, ◌*◌, ◌<◌, ◌≤◌, List, ℤ, ◌+ℤ◌, refl, ap, ◌∙◌, arith}
use Rattle.integer.specs.Sum.{sum}
use Rattle.integer.proofs.Sums.{sum_same, sum_on}
use Rattle.sizes.specs.Sizes.{risks}
use Rattle.guideline.specs.Factors.{term, sumℤ, row_sum, row_of, column_of, so_far, InOrder}

module _ (ys : List ℕ) where
  -- j products of the row after the first i, from what stands before that row
  in_row : (i j : ℕ) → j ≤ risks → so_far ys (risks * i + j) ≡ so_far ys (risks * i) +ℤ sumℤ j (term ys (suc i))
  in_row i j h =
      sum_on (λ k. term ys (row_of k) (column_of k)) (risks * i) j
      ∙ ap (λ (z : ℤ). so_far ys (risks * i) +ℤ z) (sum_same j _ _ at)
    where
      at : (k : ℕ) → k < j → term ys (row_of (risks * i + k)) (column_of (risks * i + k)) ≡ term ys (suc i) (suc k)
      at k l =
          let r : row_of (risks * i + k) ≡ suc i = omega arith in
          let c : column_of (risks * i + k) ≡ suc k = omega arith in
          λ t. term ys (r t) (c t)

  rows : (i : ℕ) → so_far ys (risks * i) ≡ sumℤ i (row_sum ys)
  unfolding sum
  rows zero = refl
  rows (suc i) =
      let e : risks * suc i ≡ risks * i + risks = omega arith in
      ap (so_far ys) e ∙ in_row i risks (omega arith) ∙ ap (λ (z : ℤ). z +ℤ row_sum ys (suc i)) (rows i)

  pub in_order : InOrder ys
  unfolding sum
  in_order =
      record {
        none = refl;
        next = λ k. refl;
        within = λ i j h. in_row i j h ∙ ap (λ (z : ℤ). z +ℤ sumℤ j (term ys (suc i))) (rows i);
        rows = rows;
        all = rows risks;
      }
