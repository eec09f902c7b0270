-- What is worked out of the block is what the call is to give. Demand 3 and the bound of the steps are laws of that outcome. Assumes nothing.
use Rattle.basics.proofs.Common.{◌≡◌, ◌++◌, ◌∙◌}
use Rattle.refusal.specs.Outcome.Outcome.{accepted}
use Rattle.guideline.specs.Block.{figures_of}
use Rattle.figures.specs.RootSteps.{steps_of}
use Rattle.figures.specs.Parts.{figure_list, step_list}
use Rattle.block.specs.Call.{block_call}
use Rattle.block.proofs.Acceptance.{block_demanded, block_few_steps}
use Rattle.block.proofs.block_call.Goals.{After-worked_out}
use Rattle.block.proofs.block_call.Goals as goal

given : (c : After-worked_out) →
    let w = c.worked_out.result in
    accepted (figure_list w.figures ++ step_list w.steps) ≡ block_call c.args.b.now
given c =
    (λ j. accepted (c.worked_out.ensures.0 j ++ c.worked_out.ensures.1 j))
    ∙ (λ j. accepted (figures_of (c.new.ensures j) ++ steps_of (c.new.ensures j)))
    ∙ c.in_ok-rules_7_to_9.ensures.outcome

pub returns-clause-demand3 : goal.returns-clause-demand3
returns-clause-demand3 c = block_demanded _ _ (given c)

pub returns-clause-few_steps : goal.returns-clause-few_steps
returns-clause-few_steps c = block_few_steps _ _ (given c)
