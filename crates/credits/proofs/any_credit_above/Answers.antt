-- The test of i is that of block i + 1, so the chain tells whether one of blocks 1 to 16 passes it. Assumes nothing.
use Rattle.basics.proofs.Common.{◌≡◌, ℕ, ◌+◌, Bool, true, false, ltb, get_or, refl, add-one, rules, tests, YieldsList-from_range, cases_from_any, any_below}
use Rattle.codes.specs.Codes.{mortality_risk_class}
use Rattle.codes.specs.declared.Code.TheVariants.{Rsk}
use Rattle.places.specs.Places.{tabled}
use Rattle.sizes.specs.Sizes.{non_participating}
use Rattle.credits.specs.Credits.{credit_above}
use Rattle.credits.proofs.Credits.{above_is}
use Rattle.credits.proofs.any_credit_above.Goals as goal

pub returns : goal.returns
returns c es H =
    let T : ℕ → Bool = λ i. ltb (tabled c.args.ledger.now.seconds Rsk (i + 1) mortality_risk_class) (get_or c.args.credits.now i 0) in
    any_below T (credit_above es) non_participating
    (λ i l. rw (← add-one i) (above_is H l _ _ refl (c.requires.credited es H i l))) c.any.result
    (cases_from_any _ _ _ (λ i. T i ≡ true) (λ i. T i ≡ false) c.any.ensures.ran (YieldsList-from_range 0 non_participating non_participating refl refl)
    (λ x q k. search (rules, tests)) (λ x q k. search (rules, tests)))
