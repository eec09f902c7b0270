-- A block that is accepted still is after a credit of at most its LT(1): both of its first two numbers fall by the same, and so do U and LT.
-- Assumes nothing.
use Rattle.basics.proofs.Common.{◌≡◌, ℕ, ◌+◌, ◌<◌, ◌≤◌, List, [], ◌∷◌, length, arith}
use Rattle.guideline.specs.Block.{lt, A, U, LT, AcceptedBlock}
use Rattle.mortality.specs.Credit.{lowered}

pub lowered_accepted : (c : ℕ) (b : List ℕ) → 1 < length b → c ≤ lt b 1 → AcceptedBlock b → AcceptedBlock (lowered c b)
unfolding lowered
lowered_accepted c [] l h v = absurd (omega arith)
lowered_accepted c (x ∷ []) l h v = absurd (omega arith)
lowered_accepted c (x ∷ y ∷ rest) l h v =
    record {
      ir_fits = omega (arith, v.ir_fits);
      lt_within = omega (arith, v.lt_within);
      lt_seven = v.lt_seven;
      pc_fits = v.pc_fits;
      credit_fits = v.credit_fits;
      market_fits = v.market_fits;
    }

-- U and LT fall by the credit
pub lowered_sums : (c : ℕ) (b : List ℕ) → 1 < length b → c ≤ lt b 1 → AcceptedBlock b → (U (lowered c b) + c ≡ U b) × (LT (lowered c b) + c ≡ LT b)
unfolding lowered U LT A
lowered_sums c [] l h v = absurd (omega arith)
lowered_sums c (x ∷ []) l h v = absurd (omega arith)
lowered_sums c (x ∷ y ∷ rest) l h v = omega (arith, v.lt_within)
