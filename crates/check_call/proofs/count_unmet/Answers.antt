-- Before each turn the count is that of the lines before the n-th. Assumes nothing.
use Rattle.basics.proofs.Common.{◌≡◌, ℕ, ◌+◌, ◌-◌, sym, refl, ap, ◌∙◌, arith, ascending}
use Rattle.needs.specs.Needing.{most_listed}
use Rattle.check_call.specs.Tabled.{unmet_at}
use Rattle.check_call.proofs.Listing.{count_more, count_same, count_most}
use Rattle.check_call.proofs.count_unmet.Goals.{After-unmet, then-unmet, else-unmet}
use Rattle.check_call.proofs.count_unmet.Goals as goal

pub loop-n-init : goal.loop-n-init
unfolding ascending
loop-n-init c = refl

pub overflow_add-count : goal.overflow_add-count
overflow_add-count c =
    omega (arith, c.loop-n.invariant, c.loop-n-test.true, count_most c.args.ledger.now.firsts c.args.ledger.now.seconds (c.loop-n.n - 1))

-- what was asked of the line is asked of the n-th
asked : (c : After-unmet) → c.unmet.result ≡ unmet_at c.args.ledger.now.firsts c.args.ledger.now.seconds c.loop-n.n
asked c = c.unmet.ensures ∙ rw (c.firsts.ensures, c.seconds.ensures, c.needing.ensures)

pub loop-n-preserved : goal.loop-n-preserved
loop-n-preserved c =
    let f = c.args.ledger.now.firsts in
    let s = c.args.ledger.now.seconds in
    let n = c.loop-n.n in
    let a = sym (asked (goal.at.loop-n-preserved c).After-unmet) in
    let e : n + 1 - 1 ≡ n = omega arith in
    elim c.if-unmet.branch [
      | then-unmet w ↦ rw e (w.count-is ∙ ap (λ (k : ℕ). k + 1) c.loop-n.invariant ∙ count_more f s n c.loop-n.auto.n (a ∙ w.if-unmet.true))
      | else-unmet w ↦ rw e (w.count-is ∙ c.loop-n.invariant ∙ count_same f s n c.loop-n.auto.n (a ∙ w.if-unmet.false))
    ]

pub returns : goal.returns
returns c =
    let e : c.loop-n.n - 1 ≡ most_listed = omega (arith, c.loop-n-test.false, c.loop-n.auto.n-end (omega arith)) in
    rw e at c.loop-n.invariant
