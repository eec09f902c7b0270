-- The test of i is that of class i + 1, so the chain tells whether one of the classes passes it. Assumes nothing.
use Rattle.basics.proofs.Common.{◌≡◌, ℕ, ◌+◌, Bool, true, false, ltb, refl, add-one, rules, tests, YieldsList-from_range, cases_from_any, any_below}
use Rattle.codes.specs.Codes.{risk_classes}
use Rattle.codes.specs.declared.Code.TheVariants.{Rsk}
use Rattle.places.specs.Places.{tabled}
use Rattle.needs.specs.Needs.{some_risk}
use Rattle.needs_unmet.proofs.some_risk.Goals as goal

pub returns : goal.returns
unfolding some_risk
returns c =
    let T : ℕ → Bool = λ i. ltb 0 (tabled c.args.firsts.now Rsk c.args.block (i + 1)) in
    any_below T (λ k. ltb 0 (tabled c.args.firsts.now Rsk c.args.block k)) risk_classes (λ i l. rw (add-one i)) c.any.result
    (cases_from_any _ _ _ (λ i. T i ≡ true) (λ i. T i ≡ false) c.any.ensures.ran (YieldsList-from_range 0 risk_classes risk_classes refl refl)
    (λ x q k. search (rules, tests)) (λ x q k. search (rules, tests)))
