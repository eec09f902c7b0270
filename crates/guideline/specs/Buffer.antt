-- The base solvency buffer, section 11.3, after document 01, 'The buffer'. Assumes nothing.
use Rattle.std.specs.Prelude.{◌≡◌, List, [], ◌∷◌, ℕ, ◌+◌, ◌-◌, ◌*◌, ◌≤◌, leb, length, get_or, ℤ, pos, ◌+ℤ◌, ◌-ℤ◌}
use Rattle.std.proofs.Common.{◌∙◌, arith}
use Rattle.std.proofs.Math.IntN.{neg_ℤ-+ℤ}
use Rattle.amount.specs.Amount.{limit}
use Rattle.integer.proofs.Integer.{ring}
use Rattle.integer.proofs.Difference.{exact_difference}
use Rattle.basics.specs.Least.{least}
use Rattle.basics.specs.Each.{Each}
use Rattle.sizes.specs.Sizes.{blocks, ten_thousandths, largest_scalar}
use Rattle.guideline.specs.Block.{AcceptedBlock, K}
use Rattle.guideline.specs.Operational.{OperationalAmounts, RO}

-- a sheet's amounts: the blocks that exist, of both sorts, ascending, each its 17 numbers; the numbers of RO, as the operational
-- call has them, each prior volume joined with the acquired one; g, in ten-thousandths; ∑ CR_i, the dividend credits of the participating blocks;
-- ∑ CR_j, the credits of adjustable products; CG, the group and deposit credits
pub record Sheet : Type 0 where
  pub blocks : List (List ℕ)
  pub volumes : List ℕ
  pub general : List ℕ
  pub g : ℕ
  pub CRᵢ : ℕ
  pub CRⱼ : ℕ
  pub CG : ℕ

-- n, 'how many blocks exist in the sheet'
abbrev pub count : Sheet → ℕ
count s = length s.blocks

-- GFD, the guarantee requirement, is the second of the general figures
abbrev pub GFD : Sheet → ℕ
GFD s = get_or s.general 1 0

-- 'sum of K', of a list of blocks
unfoldable pub sum_k : List (List ℕ) → ℕ
sum_k [] = 0
sum_k (b ∷ bs) = K b + sum_k bs

-- 'all credits that belong to no block' (document 02, #102)
abbrev pub free : Sheet → ℕ
free s = s.CRⱼ + s.CG

-- 'what is left', which rule 13 compares them with: 'sum of K + guarantee requirement + RO, as reported', less the dividend credits
unfoldable pub available : Sheet → ℕ
available s = sum_k s.blocks - s.CRᵢ + GFD s + RO s.volumes s.general

-- no more is ever available: ten amounts for each block, one for the guarantee requirement and four for RO
abbrev pub most_available : ℕ
most_available = 10 * limit * blocks + 5 * limit

-- the bracket of the buffer, section 11.3: '∑ K_sans part + ∑ (K_part i − CR_i) − ∑ CR_j − CG + GFD + RO'
unfoldable pub bracket : Sheet → ℕ
bracket s = sum_k s.blocks - s.CRᵢ + GFD s + RO s.volumes s.general - (s.CRⱼ + s.CG)

-- what rules 17 and 13 leave: the credits are within what they are taken from
abbrev pub CreditsWithin : Sheet → Type 0
CreditsWithin s = (s.CRᵢ ≤ sum_k s.blocks) × (free s ≤ available s)

-- in ℤ, where they are, the bracket is the paper's: nothing of it is cut
pub bracket_difference :
    (s : Sheet) → CreditsWithin s →
    pos (bracket s) ≡ pos (sum_k s.blocks) -ℤ pos s.CRᵢ -ℤ pos s.CRⱼ -ℤ pos s.CG +ℤ pos (GFD s) +ℤ pos (RO s.volumes s.general)
unfolding bracket available
bracket_difference s h =
    let k = sum_k s.blocks in
    exact_difference (k + GFD s + RO s.volumes s.general) (s.CRᵢ + free s) (bracket s) (omega arith)
    ∙ moved (pos k) (pos s.CRᵢ) (pos s.CRⱼ) (pos s.CG) (pos (GFD s)) (pos (RO s.volumes s.general))
  where
    moved : (k c d e g r : ℤ) → k +ℤ g +ℤ r -ℤ (c +ℤ (d +ℤ e)) ≡ k -ℤ c -ℤ d -ℤ e +ℤ g +ℤ r
    moved k c d e g r = simp (ring, neg_ℤ-+ℤ)

-- 'Buffer = g × (..), rounded up to a cent. The scalar multiplies the whole bracket'
unfoldable pub buffer : Sheet → ℕ
buffer s = least (λ x. leb (s.g * bracket s) (ten_thousandths * x))

-- ---- the exact buffer

-- what the rules leave of a sheet's amounts
pub record AcceptedSheet (s : Sheet) : Type 0 where
  pub blocks_pass : Each AcceptedBlock s.blocks
  pub few : count s ≤ blocks
  pub amounts : OperationalAmounts s.volumes s.general
  pub g_low : 1 ≤ s.g
  pub g_high : s.g ≤ largest_scalar
  pub credits_within : CreditsWithin s
