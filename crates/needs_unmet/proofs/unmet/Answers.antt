-- The tests go as the definition's do: the amounts, then whether what is needed is there. Assumes nothing.
use Rattle.basics.proofs.Common.{◌≡◌, ℕ, List, get_or, sym, ap, ◌∙◌}
use Rattle.places.specs.Places.{tabled}
use Rattle.needs_unmet.proofs.Companions.{companion_placed, all_zero_met, companion_met}
use Rattle.needs_unmet.proofs.unmet.Goals.{After-index_of-at}
use Rattle.needs_unmet.proofs.unmet.Goals as goal

-- what a table has at the line's index
held : (c : After-index_of-at) (l : List ℕ) → get_or l c.index_of-at.result 0 ≡ tabled l c.args.need.line.code c.args.need.line.block c.args.need.line.class
held c l = ap (λ (i : ℕ). get_or l i 0) c.index_of-at.ensures.0

pub returns-then-all_zero : goal.returns-then-all_zero
returns-then-all_zero c =
    let h = held (goal.at.returns-then-all_zero c).After-index_of-at in
    all_zero_met (tabled c.args.firsts.now) (tabled c.args.seconds.now) _ (h c.args.firsts.now) (c.second_at.ensures ∙ h c.args.seconds.now) (sym c.all_zero.ensures ∙ c.if-all_zero.true)

pub companion_serves-requires : goal.companion_serves-requires
companion_serves-requires c = companion_placed _ _ _ c.args.need.key c.args.need.needed

pub returns : goal.returns
returns c =
    let h = held (goal.at.returns c).After-index_of-at in
    companion_met (tabled c.args.firsts.now) (tabled c.args.seconds.now) _ (h c.args.firsts.now) (c.second_at.ensures ∙ h c.args.seconds.now)
    (sym c.all_zero.ensures ∙ c.if-all_zero.false) c.args.need.needed c.companion_serves.ensures
