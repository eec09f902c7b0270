-- The bytes of a line whose need is unmet, and of its companion, go into the stretch; another changes nothing. Assumes nothing.
use Rattle.basics.proofs.Common.{◌≡◌, true, [], sym, ap, ◌∙◌, arith}
use Rattle.needs.specs.Needs.{need_of}
use Rattle.check_call.specs.Tabled.{unmet_at}
use Rattle.check_call.proofs.Listing.{none_put, one_long, one_put}
use Rattle.check_call.proofs.write_unmet.Goals.{After-unmet, Else-not-unmet}
use Rattle.check_call.proofs.write_unmet.Goals as goal

-- what was asked of the line is asked of the n-th
asked : (c : After-unmet) → c.unmet.result ≡ unmet_at c.args.ledger.now.firsts c.args.ledger.now.seconds c.args.n
asked c = c.unmet.ensures ∙ rw (c.firsts.ensures, c.seconds.ensures, c.needing-need.ensures)

-- where it is unmet
is_unmet : (c : Else-not-unmet) → unmet_at c.args.ledger.now.firsts c.args.ledger.now.seconds c.args.n ≡ true
is_unmet c = sym (asked (goal.at.Else-not-unmet c).After-unmet) ∙ c.if-not-unmet.false

pub returns-then-not-unmet : goal.returns-then-not-unmet
returns-then-not-unmet c =
    let at_unmet = (goal.at.returns-then-not-unmet c).After-unmet in
    none_put c.args.ledger.now.firsts c.args.ledger.now.seconds c.args.n _ _ (sym (asked at_unmet) ∙ c.if-not-unmet.true)

pub slice_bounds-write_listed-end : goal.slice_bounds-write_listed-end
slice_bounds-write_listed-end c =
    let not_unmet = (goal.at.slice_bounds-write_listed-end c).Else-not-unmet in
    omega (arith, c.requires.2, one_long c.args.ledger.now.firsts c.args.ledger.now.seconds c.args.n 0 [] (is_unmet not_unmet))

pub returns : goal.returns
returns c =
    let line = c.needing-need.ensures in
    one_put c.args.ledger.now.firsts c.args.ledger.now.seconds c.args.n _ _ (is_unmet (goal.at.returns c).Else-not-unmet) line
    (ap need_of (sym line) ∙ c.needing-need.result.needed) c.write_listed.ensures
