-- Each return is the chain of the tests that led to it: rule 15, then rule 7 over the volumes and over the general figures after them.
-- Assumes nothing.
use Rattle.basics.proofs.Common.{◌≡◌, ℕ, [], ◌∷◌, ◌++◌, sym, ap, ◌∙◌, arith, if_ne, if_lt, if_ge}
use Rattle.refusal.specs.Outcome.Outcome.{accepted}
use Rattle.amount.specs.Rule7.{rule7}
use Rattle.guideline.specs.Operational.{RO}
use Rattle.operational.specs.Call.{operational_call}
use Rattle.operational.proofs.Rules.{passed_15, in_volumes, in_general, past_7, amounts}
use Rattle.operational.proofs.operational_call.Goals.{Else-n-ne0}
use Rattle.operational.proofs.operational_call.Goals as goal

-- past rule 15
after_15 : (c : Else-n-ne0) →
    let a = c.args in
    operational_call a.volumes.now a.general.now ≡ rule7 (a.volumes.now ++ a.general.now) (accepted (RO a.volumes.now a.general.now ∷ []))
after_15 c = passed_15 _ _ (omega (arith, c.if-n-gt-VOLUME_NUMBERS.false)) (omega (arith, c.if-n-ne0.false))

pub returns-then-n-gt-VOLUME_NUMBERS : goal.returns-then-n-gt-VOLUME_NUMBERS
unfolding operational_call
returns-then-n-gt-VOLUME_NUMBERS c = sym (if_lt _ c.if-n-gt-VOLUME_NUMBERS.true)

pub returns-then-n-ne0 : goal.returns-then-n-ne0
unfolding operational_call
returns-then-n-ne0 c = sym (if_ge _ c.if-n-gt-VOLUME_NUMBERS.false ∙ if_ne _ c.if-n-ne0.true)

pub returns-in-Some : goal.returns-in-Some
returns-in-Some c = sym (after_15 (goal.at.returns-in-Some c).Else-n-ne0 ∙ in_volumes _ _ c.in-Some.ensures _)

pub returns-in-Some-first_above : goal.returns-in-Some-first_above
returns-in-Some-first_above c =
    let n_ne0 = (goal.at.returns-in-Some-first_above c).Else-n-ne0 in
    sym (after_15 n_ne0 ∙ in_general _ _ c.in_default.ensures c.in-Some-first_above.ensures _)

pub operational-requires : goal.operational-requires
operational-requires c = amounts _ _ c.in_default.ensures c.if-n-gt-VOLUME_NUMBERS.false c.in_default-first_above.ensures

pub returns : goal.returns
returns c =
    let n_ne0 = (goal.at.returns c).Else-n-ne0 in
    ap (λ (x : ℕ). accepted (x ∷ [])) c.operational.ensures ∙ sym (after_15 n_ne0 ∙ past_7 _ _ c.in_default.ensures c.in_default-first_above.ensures _)
