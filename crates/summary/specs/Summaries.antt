-- What is said of accepted sheets together. Document 02, #114: 'the number accepted, the smallest buffer, the first sheet that has it, the largest, the
-- first sheet that has it, the total, the mean in whole cents, its remainder over the count. With none accepted it prints zeros.' Assumes nothing.
use Rattle.std.specs.Prelude.{◌≡◌, Bool, List, [], ◌∷◌, ◌++◌, ℕ, ◌+◌, ◌*◌, ◌/◌, ◌%◌, ◌≤◌, ◌<◌, eqb, ltb, length}
use Rattle.basics.specs.Pick.{pick}
use Rattle.basics.specs.Each.{Each}
use Rattle.summary.specs.declared.Accepted.{Accepted}
use Rattle.summary.specs.declared.Summary.{Summary}

-- of two sheets the second only where its buffer comes before the first one's: of equal ones the first
abbrev pub leading : (ℕ → ℕ → Bool) → Accepted → Accepted → Accepted
leading before a b = pick (before b.buffer a.buffer) b a

-- of a sheet and those after it the first whose buffer none of the others comes before
unfoldable pub first_extreme : (ℕ → ℕ → Bool) → Accepted → List Accepted → Accepted
first_extreme before a [] = a
first_extreme before a (b ∷ bs) = first_extreme before (leading before a b) bs

-- 'the smallest buffer' comes before larger ones
abbrev pub is_smaller : ℕ → ℕ → Bool
is_smaller x y = ltb x y

-- 'the largest' before smaller ones
abbrev pub is_larger : ℕ → ℕ → Bool
is_larger x y = ltb y x

-- 'the total'
unfoldable pub total : List Accepted → ℕ
total [] = 0
total (a ∷ xs) = a.buffer + total xs

-- no sheet
abbrev pub no_sheet : Accepted
no_sheet = record { sheet = 0; buffer = 0 }

-- the number accepted, the smallest and the largest buffer, each with the first sheet that has it, and the total; 'With none accepted .. zeros'
unfoldable pub summary_of : List Accepted → Summary
summary_of [] = record { count = 0; smallest = no_sheet; largest = no_sheet; total = 0 }
summary_of (a ∷ xs) =
    record { count = length (a ∷ xs); smallest = first_extreme is_smaller a xs; largest = first_extreme is_larger a xs; total = total (a ∷ xs) }

-- 'the mean in whole cents'
unfoldable pub mean : Summary → ℕ
mean s = pick (eqb s.count 0) 0 (s.total / s.count)

-- 'its remainder over the count'
unfoldable pub remainder : Summary → ℕ
remainder s = pick (eqb s.count 0) 0 (s.total % s.count)

-- items 1 to 8
abbrev pub items_of : Summary → List ℕ
items_of s =
    s.count ∷ s.smallest.buffer ∷ s.smallest.sheet ∷ s.largest.buffer ∷ s.largest.sheet ∷ s.total ∷ mean s ∷ remainder s ∷ []

-- ---- what the summary of some sheets says of them

-- x is among the sheets; its buffer is at least as good as each of theirs, and better than those of all sheets before it
pub record FirstExtreme (AtLeast Better : ℕ → ℕ → Type 0) (xs : List Accepted) (x : Accepted) : Type 0 where
  pub earlier : List Accepted
  pub later : List Accepted
  pub among : xs ≡ earlier ++ (x ∷ later)
  pub extreme : Each (λ y. AtLeast x.buffer y.buffer) xs
  pub first : Each (λ y. Better x.buffer y.buffer) earlier

-- of the summary s of the sheets xs, one at least
pub record SummaryIs (xs : List Accepted) (s : Summary) : Type 0 where
  pub count_is : s.count ≡ length xs
  -- no buffer is smaller, and no earlier sheet has it; no buffer is larger, and no earlier sheet has it
  pub smallest_is : FirstExtreme (λ x y. x ≤ y) (λ x y. x < y) xs s.smallest
  pub largest_is : FirstExtreme (λ x y. y ≤ x) (λ x y. y < x) xs s.largest
  pub total_is : s.total ≡ total xs
  -- mean × count + remainder is the total, and the remainder is below the count
  pub mean_is : mean s * s.count + remainder s ≡ total xs
  pub remainder_below : remainder s < s.count
