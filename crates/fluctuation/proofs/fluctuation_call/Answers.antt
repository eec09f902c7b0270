-- Each return is the chain of the tests that led to it: rule 18 from both sides, then rule 7, and past it the result. The accuracy rule is a
-- law of that outcome. Assumes nothing.
use Rattle.basics.proofs.Common.{◌≡◌, ℕ, [], ◌∷◌, sym, ap, ◌∙◌, arith}
use Rattle.refusal.specs.Outcome.Outcome.{accepted}
use Rattle.amount.specs.Rule7.{rule7}
use Rattle.amount.proofs.Rule7.{passed_7}
use Rattle.fluctuation.specs.Rows.{row_of}
use Rattle.fluctuation.specs.Result.{factored_requirement}
use Rattle.fluctuation.specs.Call.{fluctuation_call}
use Rattle.fluctuation.proofs.Rules.{passed_18}
use Rattle.fluctuation.proofs.Acceptance.{fluctuation_demanded}
use Rattle.fluctuation.proofs.fluctuation_call.Goals.{Else-row-gt-ROWS}
use Rattle.fluctuation.proofs.fluctuation_call.Goals as goal

-- past rule 18
after_18 : (c : Else-row-gt-ROWS) →
    let a = c.args in
    fluctuation_call a.row a.requirement a.face
    ≡ rule7 (a.requirement ∷ a.face ∷ []) (accepted (factored_requirement (row_of a.row) a.requirement a.face ∷ []))
after_18 c = passed_18 _ _ _ c.if-row-lt1.false (omega (arith, c.if-row-gt-ROWS.false))

pub returns : goal.returns
returns c =
    let row_gt_rows = (goal.at.returns c).Else-row-gt-ROWS in
    let e =
    ap (λ (x : ℕ). accepted (x ∷ [])) c.fluctuation.ensures
    ∙ sym (after_18 row_gt_rows ∙ passed_7 _ _ c.in_default.ensures) in record {
      outcome = e;
      accuracy = fluctuation_demanded _ _ _ _ e;
    }
