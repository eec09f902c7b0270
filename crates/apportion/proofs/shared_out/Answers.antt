-- The quotients leave room for their cents, and with them they are the shares. Assumes nothing.
use Rattle.basics.proofs.Common.{◌∙◌}
use Rattle.apportion.proofs.Parts.{shared}
use Rattle.apportion.proofs.shared_out.Goals as goal

pub returns : goal.returns
returns c =
    let e = c.divided-left.ensures in
    c.with_cents.ensures ∙ shared _ _ _ c.requires _ e.quotients.0 _ _ e.remainders e.quotients.1
