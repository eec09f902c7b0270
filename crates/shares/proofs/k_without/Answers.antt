-- The block without the part is accepted, and K is the fifth of its figures. Assumes nothing.
use Rattle.basics.proofs.Common.{◌≡◌, ℕ, List, sym, ap, ◌∙◌, subst}
use Rattle.guideline.specs.Block.{AcceptedBlock, K}
use Rattle.figures.specs.Parts.{figures_are}
use Rattle.shares.specs.Margins.{without, k_without}
use Rattle.shares.proofs.PartsLeftOut.{accepted_without}
use Rattle.shares.proofs.k_without.Goals.{After-without_part}
use Rattle.shares.proofs.k_without.Goals as goal

less_is : (c : After-without_part) → c.without_part.result ≡ without c.args.b.now.numbers c.args.part
less_is c = c.without_part.ensures ∙ ap (λ (b : List ℕ). without b c.args.part) c.numbers.ensures

pub new-less-requires : goal.new-less-requires
new-less-requires c =
    subst AcceptedBlock (sym (less_is (goal.at.new-less-requires c).After-without_part)) (accepted_without _ _ c.requires.0 c.args.b.now.accepted)

pub returns : goal.returns
unfolding k_without
returns c = (figures_are _ _ c.figures_of.ensures).4 ∙ ap K (c.new-less.ensures ∙ less_is (goal.at.returns c).After-without_part)
