-- What the block call accepts: just the 17 numbers that rules 7, 8 and 9 leave, `AcceptedBlock`; and where it does, demand 3 for one block and
-- the bound of its roots' steps. proofs/Acceptance proves all three of every call. Assumes nothing.
use Rattle.std.specs.Prelude.{◌≡◌, List, ◌++◌, ℕ, ◌≤◌, length, get_or}
use Rattle.refusal.specs.Outcome.{Outcome}
use Rattle.refusal.specs.Accepted.{AcceptsJust, IfAccepted}
use Rattle.sizes.specs.Sizes.{block_numbers, most_steps}
use Rattle.guideline.specs.Block.{AcceptedBlock, figures_of}
use Rattle.accuracy.specs.Demand.{BlockDemand}
use Rattle.figures.specs.RootSteps.{steps_of}
use Rattle.block.specs.Call.{block_call}

-- of any numbers: 17 that the rules leave are accepted, with their figures and steps, and no others are
abbrev pub AcceptsBlock : List ℕ → Type 0
AcceptsBlock b = AcceptsJust (length b ≡ block_numbers) (AcceptedBlock b) (figures_of b ++ steps_of b) (block_call b)

-- demand 3 for one block, by the call's outcome: accepted, the values are the block's figures, which meet it, and its steps
abbrev pub BlockDemand3 : List ℕ → Outcome → Type 0
BlockDemand3 b = IfAccepted (λ vs. (vs ≡ figures_of b ++ steps_of b) × BlockDemand b)

-- 'These roots take at most 58 steps' (document 02, #109), by the call's outcome: its sixth and its seventh value
abbrev pub FewSteps : Outcome → Type 0
FewSteps = IfAccepted (λ vs. (get_or vs 5 0 ≤ most_steps) × (get_or vs 6 0 ≤ most_steps))
