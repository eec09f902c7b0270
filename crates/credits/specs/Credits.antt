-- The credits of a sheet's blocks off its lines, section 11.1.1, and a block's numbers after its credit; what rule 16 tests, and what it leaves.
-- Assumes nothing.
use Rattle.std.specs.Prelude.{◌≡◌, Bool, List, ℕ, ◌+◌, ◌≤◌, ◌<◌, ltb, get_or}
use Rattle.sizes.specs.Sizes.{non_participating}
use Rattle.guideline.specs.Block.{lt}
use Rattle.mortality.specs.Credit.{diversification_credit, lowered}
use Rattle.sheet_line.specs.declared.Entry.{Entry}
use Rattle.ledger.specs.Numbers.{block_of, survival_sum, death_sum}

-- the reported credit of a block, section 11.1.1; a block without a MOR line has S and T zero, and no credit
unfoldable pub credit_of : List Entry → ℕ → ℕ
credit_of es b = diversification_credit (survival_sum es b) (death_sum es b)

-- the 17 numbers of a block, IR(1) and LT(1) lowered by the credit
unfoldable pub after_credit : List Entry → ℕ → List ℕ
after_credit es b = lowered (credit_of es b) (block_of es b)

-- a credit above its block's LT(1)
unfoldable pub credit_above : List Entry → ℕ → Bool
credit_above es b = ltb (lt (block_of es b) 1) (credit_of es b)

-- the reported credits of blocks 1 to 16, in this order
abbrev pub Credits : List Entry → List ℕ → Type 0
Credits es credits = (i : ℕ) → i < non_participating → get_or credits i 0 ≡ credit_of es (i + 1)

-- what rule 16 leaves: no credit is above its block's LT(1)
abbrev pub Covered : List Entry → Type 0
Covered es = (b : ℕ) → credit_of es b ≤ lt (block_of es b) 1
