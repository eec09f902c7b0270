-- What the rules of a line leave of a block's numbers, and rule 16 of its credit: before and after the credit the block is accepted. Assumes nothing.
use Rattle.basics.proofs.Common.{◌≡◌, ℕ, ◌+◌, ◌≤◌, false, List, arith, ltb-false, dec_le, Each, any_to, none_to}
use Rattle.sizes.specs.Sizes.{non_participating}
use Rattle.guideline.specs.Block.{lt, U, LT, AcceptedBlock}
use Rattle.guideline.proofs.Figures.{accepted_of_lem}
use Rattle.mortality.specs.Credit.{CreditDemand}
use Rattle.mortality.proofs.Credits.{credit_demand, none_with_0}
use Rattle.mortality.proofs.Acceptance.{lowered_accepted, lowered_sums}
use Rattle.codes.specs.Codes.{sums_class, Key}
use Rattle.sheet_line.specs.Rules.{AcceptedLine}
use Rattle.codes.specs.declared.Code.TheVariants.{Mor}
use Rattle.sheet_line.specs.declared.Entry.{Entry}
use Rattle.ledger.specs.Numbers.{block_of, survival_sum, death_sum}
use Rattle.ledger.proofs.Bounds.{first_most, second_most, none_outside, block_ruled}
use Rattle.credits.specs.Credits.{credit_of, after_credit, credit_above, Covered}

module _ (es : List Entry) (all : Each AcceptedLine es) where
  -- before its credit
  pub entered_accepted : (b : ℕ) → AcceptedBlock (block_of es b)
  entered_accepted b = let s = block_ruled es all b in accepted_of_lem (block_of es b) s.amounts s.last s.trend

  pub credit_accurate : (b : ℕ) → CreditDemand (survival_sum es b) (death_sum es b) (credit_of es b)
  unfolding credit_of
  credit_accurate b = credit_demand _ _ (first_most es all Mor b sums_class) (second_most es all Mor b sums_class)

  -- what rule 16 tests is all: other blocks have no MOR line and no credit
  pub all_covered : any_to (credit_above es) non_participating ≡ false → Covered es
  unfolding credit_above credit_of
  all_covered e b = go (dec_le 1 b) (dec_le b non_participating)
    where
      none : (Key Mor b sums_class → ⊥) → credit_of es b ≤ lt (block_of es b) 1
      none n = let z = none_outside es all Mor b sums_class n in rw (z.0, z.1, none_with_0 0 (omega arith)) (omega arith)

      go : Dec (1 ≤ b) → Dec (b ≤ non_participating) → credit_of es b ≤ lt (block_of es b) 1
      go (yes l) (yes h) = ltb-false _ _ (none_to (credit_above es) non_participating e b l h)
      go (yes l) (no h) = none (λ v. omega (arith, v.high))
      go (no l) h = none (λ v. omega (arith, v.low))

-- what holds once no credit is above its block's LT(1)
module _ (es : List Entry) (all : Each AcceptedLine es) (covered : Covered es) where
  pub block_accepted : (b : ℕ) → AcceptedBlock (after_credit es b)
  unfolding after_credit
  block_accepted b =
      lowered_accepted (credit_of es b) (block_of es b) (omega (arith, (block_ruled es all b).long)) (covered b) (entered_accepted es all b)

  -- what the report shows of a block's U and LT is less than the lines say by the credit
  pub credit_taken : (b : ℕ) → (U (after_credit es b) + credit_of es b ≡ U (block_of es b)) × (LT (after_credit es b) + credit_of es b ≡ LT (block_of es b))
  unfolding after_credit
  credit_taken b = lowered_sums (credit_of es b) (block_of es b) (omega (arith, (block_ruled es all b).long)) (covered b) (entered_accepted es all b)
