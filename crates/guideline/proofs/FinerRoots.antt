-- A block on which the finer roots tell, computed: a component of 3 cents and credit of 9. D is 21.64 half cents, reported as 22; K is 11 cents at
-- the finer D, as it is defined, and would be 12 at the reported one. Assumes nothing.
use Rattle.basics.proofs.Common.{◌≡◌, ℕ, ◌*◌, List, [], ◌∷◌, refl, least_from, pick}
use Rattle.integer.specs.Sum.{sum}
use Rattle.sizes.specs.Sizes.{fineness}
use Rattle.guideline.specs.Factors.{factors}
use Rattle.guideline.specs.Block.{A, U, LT, Vh, y, ys, Q4, largest_of, largest, root, fine_i, a, fine_d, reported, I, D, requirement, K}

abbrev sample : List ℕ
sample = 3 ∷ 0 ∷ 0 ∷ 0 ∷ 0 ∷ 0 ∷ 0 ∷ 0 ∷ 0 ∷ 0 ∷ 0 ∷ 0 ∷ 0 ∷ 0 ∷ 0 ∷ 9 ∷ 0 ∷ []

pub finer_roots_differ : (fine_d sample ≡ 2164) × (D sample ≡ 22) × (K sample ≡ 11)
    × (requirement (U sample) (LT sample) (Vh sample) (fineness * D sample) ≡ 12)
unfolding pick least_from factors sum A U LT Vh y ys Q4 largest_of largest root fine_i a fine_d reported I D requirement K
finer_roots_differ = (refl, refl, refl, refl)
