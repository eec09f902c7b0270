-- Numbers divided by small margins, computed: the cents left over go to the largest remainders, and of equal ones to the lower number.
-- Assumes nothing.
use Rattle.basics.proofs.Common.{◌≡◌, ℕ, List, [], ◌∷◌, refl, ascending, pick, sum_to, one}
use Rattle.apportion.specs.Shares.{value_of_part, base, remainder, left_over, before, rank, cent, share, shares}

-- margins of three parts, and none of the others
abbrev three : (x y z : ℕ) → ℕ → ℕ
three x y z = value_of_part (x ∷ 0 ∷ 0 ∷ y ∷ 0 ∷ 0 ∷ 0 ∷ 0 ∷ 0 ∷ z ∷ [])

-- and their shares
abbrev to_three : (x y z : ℕ) → List ℕ
to_three x y z = x ∷ 0 ∷ 0 ∷ y ∷ 0 ∷ 0 ∷ 0 ∷ 0 ∷ 0 ∷ z ∷ []

pub record Cases : Type 0 where
  -- ten by 1, 2 and 4: the remainders are 3, 6 and 5 sevenths, and two cents are left over
  pub largest : shares 10 (three 1 2 4) ≡ to_three 1 3 6
  -- ten by 3, 3 and 1: 2, 2 and 3 sevenths, and one cent
  pub last : shares 10 (three 3 3 1) ≡ to_three 4 4 2
  -- eleven by equal ones: two cents
  pub equal : shares 11 (three 5 5 5) ≡ to_three 4 4 3

pub cases : Cases
unfolding pick sum_to one ascending base remainder left_over before rank cent share shares
cases = record { largest = refl; last = refl; equal = refl }
