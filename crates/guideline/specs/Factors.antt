-- The correlation factors of section 11.2.1 and the sum over all pairs of risks, after document 01, 'A block'. Assumes nothing.
use Rattle.std.specs.Prelude.{◌≡◌, List, [], ◌∷◌, ℕ, suc, ◌+◌, ◌*◌, ◌/◌, ◌%◌, ◌≤◌, ℤ, pos, negsuc, ◌+ℤ◌, ◌*ℤ◌}
use Rattle.basics.specs.Numbered.{numbered}
use Rattle.integer.specs.Sum.{sum}
use Rattle.sizes.specs.Sizes.{risks, products}

-- 'The correlation factors, in quarters, rows and columns 1 to 7'; negsuc n is −(n + 1)
unfoldable pub factors : List (List ℤ)
factors =
    (pos 4 ∷ negsuc 0 ∷ pos 2 ∷ negsuc 0 ∷ pos 1 ∷ pos 0 ∷ pos 2 ∷ [])
    ∷ (negsuc 0 ∷ pos 4 ∷ negsuc 0 ∷ pos 2 ∷ pos 1 ∷ negsuc 0 ∷ pos 1 ∷ [])
    ∷ (pos 2 ∷ negsuc 0 ∷ pos 4 ∷ pos 1 ∷ pos 2 ∷ pos 0 ∷ pos 2 ∷ [])
    ∷ (negsuc 0 ∷ pos 2 ∷ pos 1 ∷ pos 4 ∷ pos 2 ∷ negsuc 0 ∷ pos 2 ∷ [])
    ∷ (pos 1 ∷ pos 1 ∷ pos 2 ∷ pos 2 ∷ pos 4 ∷ negsuc 1 ∷ pos 2 ∷ [])
    ∷ (pos 0 ∷ negsuc 0 ∷ pos 0 ∷ negsuc 0 ∷ negsuc 1 ∷ pos 4 ∷ negsuc 0 ∷ [])
    ∷ (pos 2 ∷ pos 1 ∷ pos 2 ∷ pos 2 ∷ pos 2 ∷ negsuc 0 ∷ pos 4 ∷ [])
    ∷ []

-- ρ(i, j) of section 11.2.1: the factor in row i and column j, from 1 to 7
abbrev pub ρ : ℕ → ℕ → ℤ
ρ i j = numbered (numbered factors i []) j (pos 0)

-- one product, factor × y(i) × y(j), for risks i and j from 1 to 7
abbrev pub term : List ℕ → ℕ → ℕ → ℤ
term ys i j = ρ i j *ℤ pos (numbered ys i 0 * numbered ys j 0)

-- f(1) + .. + f(n), integers
abbrev pub sumℤ : ℕ → (ℕ → ℤ) → ℤ
sumℤ n f = sum n (λ k. f (suc k))

-- row i of the sum: j from 1 to 7
abbrev pub row_sum : List ℕ → ℕ → ℤ
row_sum ys i = sumℤ risks (term ys i)

-- 'the sum over all i, j of factor × y(i) × y(j)': four times Q. 'A single term may be negative; Q never is'
abbrev pub quarter_sum : List ℕ → ℤ
quarter_sum ys = sumℤ risks (row_sum ys)

-- ---- what is held on the way: the sum product after product

-- the row, from 1 to 7, of the product that comes after k others
abbrev pub row_of : ℕ → ℕ
row_of k = suc (k / risks)

-- and its column
abbrev pub column_of : ℕ → ℕ
column_of k = suc (k % risks)

-- its factor, k from 0 to 48
unfoldable pub factor : ℕ → ℤ
factor k = ρ (row_of k) (column_of k)

-- the sum of the first k products, row by row
abbrev pub so_far : List ℕ → ℕ → ℤ
so_far ys n = sum n (λ k. term ys (row_of k) (column_of k))

-- that this is the double sum, in the order in which it is written; proofs/ProductOrder proves it of every list of y(i)
pub record InOrder (ys : List ℕ) : Type 0 where
  -- before the first product it is 0
  pub none : so_far ys 0 ≡ pos 0
  -- each product adds itself, exactly
  pub next : (k : ℕ) → so_far ys (suc k) ≡ so_far ys k +ℤ term ys (row_of k) (column_of k)
  -- after i rows and j products of the next one: those rows whole, and columns 1 to j of row i + 1
  pub within : (i j : ℕ) → j ≤ risks → so_far ys (risks * i + j) ≡ sumℤ i (row_sum ys) +ℤ sumℤ j (term ys (suc i))
  -- after i rows: rows 1 to i
  pub rows : (i : ℕ) → so_far ys (risks * i) ≡ sumℤ i (row_sum ys)
  -- after all 49: the sum over all i, j
  pub all : so_far ys products ≡ quarter_sum ys
