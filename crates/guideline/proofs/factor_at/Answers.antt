-- The constant is the list of the table's factors, row by row, as it computes; each is at most 4 in size, so that its byte and its word read back
-- as it is. Assumes nothing.
use Rattle.basics.proofs.Common.{◌≡◌, ℕ, ◌<◌, get_or, ℤ, pos, ap, ◌∙◌, w8, w64, to_z-of_z, values}
use mir.Val.{to_z, of_z}
use Rattle.basics.proofs.Values.{values_at}
use Rattle.sizes.specs.Sizes.{products}
use Rattle.guideline.specs.Factors.{factors, factor}
use Rattle.guideline.proofs.Table.{factor_small, small_fits}
use Rattle.guideline.proofs.factor_at.Goals as goal

-- an entry as the machine reads it back from its byte
entry : (k : ℕ) → k < products → to_z w8 (of_z w8 (get_or (values factor products) k (pos 0))) ≡ factor k
entry k h =
    ap (λ (z : ℤ). to_z w8 (of_z w8 z)) (values_at factor (pos 0) products k h) ∙ to_z-of_z w8 (factor k) (small_fits (factor k) (factor_small k)).0

pub returns : goal.returns
unfolding factor factors values
returns c =
    let k : ℕ = c.args.k in
    ap (λ (z : ℤ). to_z w64 (of_z w64 z)) (c.from.ensures ∙ entry k c.requires) ∙ to_z-of_z w64 (factor k) (small_fits (factor k) (factor_small k)).1
