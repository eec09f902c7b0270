-- What rules 7, 8 and 9 refuse stays refused; what they leave goes on to rule 23. What the shares promise is a law of the outcome. Assumes nothing.
use Rattle.basics.proofs.Common.{◌≡◌, ap, ◌∙◌, err_from_is_err_and}
use Rattle.refusal.specs.Outcome.{stated_numbers}
use Rattle.shares.specs.Call.{rule23, shares_call}
use Rattle.shares.proofs.Rules.{refused_call, accepted_call}
use Rattle.shares.proofs.Acceptance.{shares_demanded}
use Rattle.shares.proofs.shares_call.Goals.{After-shares_of}
use Rattle.shares.proofs.shares_call.Goals as goal

pub returns-in_err-block-clause-outcome : goal.returns-in_err-block-clause-outcome
returns-in_err-block-clause-outcome c =
    let p = err_from_is_err_and c.from_residual.result c.from_residual.ensures.1 in
    rw (p.1, p.2) (refused_call _ _ _ c.in_err-block.ensures.outcome)

given : (c : After-shares_of) → stated_numbers c.shares_of.result ≡ shares_call c.args.b.now
given c =
    let block = c.in_ok-block.ensures in
    c.shares_of.ensures ∙ ap rule23 block.numbers ∙ accepted_call _ _ block.outcome

pub returns-clause-outcome : goal.returns-clause-outcome
returns-clause-outcome c = given c

pub returns-clause-shares_demand : goal.returns-clause-shares_demand
returns-clause-shares_demand c = shares_demanded _ _ (given c)
