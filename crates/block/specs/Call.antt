-- The block call of document 01, 'What is turned away': 'it tests 7 at the first bad position, then 8, then 9, these two at the
-- position of the first bad LT', and 'Accepted, the block call gives I, D, U, LT and K'; after them, by document 02, #107, the steps of the
-- two roots. Assumes nothing.
use Rattle.std.specs.Prelude.{Bool, Result, ⊤, List, ◌++◌, ℕ, ◌+◌, ◌*◌, ltb, eqb, get_or}
use Rattle.basics.specs.Pick.{pick}
use Rattle.basics.specs.First.{first}
use Rattle.amount.specs.Rule7.{rule7}
use Rattle.refusal.specs.Outcome.{Outcome, stated_by}
use Rattle.refusal.specs.Outcome.Outcome.{accepted, refused}
use Rattle.refusal.specs.declared.Place.TheVariants.{Position}
use Rattle.refusal.specs.declared.Refusal.{Refusal}
use Rattle.sizes.specs.Sizes.{risks, last_lt_position}
use Rattle.guideline.specs.declared.Block.{Block}
use Rattle.guideline.specs.Block.{lt, figures_of}
use Rattle.figures.specs.declared.FiguresAndSteps.{FiguresAndSteps}
use Rattle.figures.specs.Parts.{figure_list, step_list}
use Rattle.figures.specs.RootSteps.{steps_of}

-- what the result says in document 01's numbers: the figures in its order and the steps, or the refusal's number and place
abbrev pub stated : Result FiguresAndSteps Refusal → Outcome
stated = stated_by (λ w. figure_list w.figures ++ step_list w.steps)

-- the same of the block alone, by what is worked out of its numbers
abbrev pub stated_block : Result Block Refusal → Outcome
stated_block = stated_by (λ k. figures_of k.numbers ++ steps_of k.numbers)

-- the same where the answer holds nothing, by the numbers that were tested; it serves a private contract alone
abbrev pub stated_tested : List ℕ → Result ⊤ Refusal → Outcome
stated_tested b = stated_by (λ nothing. figures_of b ++ steps_of b)

-- rule 9 at the pair i, counted from 0: its LT, at position 2i + 1, is above its IR
abbrev pub lt_above : List ℕ → ℕ → Bool
lt_above b i = ltb (get_or b (2 * i) 0) (get_or b (2 * i + 1) 0)

-- the first such pair; the number of risks where there is none
unfoldable pub first_lt_above : List ℕ → ℕ
first_lt_above b = first (lt_above b) risks

-- rule 9, at the position of the LT
unfoldable pub rule9 : List ℕ → Outcome
rule9 b = pick (ltb (first_lt_above b) risks) (refused 9 (Position (2 * first_lt_above b + 1))) (accepted (figures_of b ++ steps_of b))

-- rule 8: LT(7) is not 0
unfoldable pub rule8 : List ℕ → Outcome
rule8 b = pick (eqb (lt b 7) 0) (rule9 b) (refused 8 (Position last_lt_position))

-- the block call on its 17 numbers
unfoldable pub block_call : List ℕ → Outcome
block_call b = rule7 b (rule8 b)
