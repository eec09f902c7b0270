-- The product is the radicand of a base that is the requirement. Assumes nothing.
use Rattle.basics.proofs.Common.{◌*◌, leb, ◌∙◌, least}
use Rattle.fluctuation.proofs.Radicand.{own_root_same}
use Rattle.fluctuation.proofs.over_own_root.Goals as goal

pub returns : goal.returns
returns c =
    let e = c.product.ensures in
    c.root_up.ensures ∙ (λ i. least (λ x. leb (e i) (x * x))) ∙ own_root_same c.args.second c.args.base c.requires.1
