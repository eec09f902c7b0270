-- What `find` gives of the seven pairs is the first that passes, and none where none does. Assumes nothing.
use Rattle.basics.proofs.Common.{◌≡◌, true, false, refl, rules, tests, YieldsList-from_range}
use Rattle.std.proofs.lemmas.Iterator.{first_from_find}
use Rattle.sizes.specs.Sizes.{risks}
use Rattle.block.specs.Call.{lt_above}
use Rattle.block.proofs.Rules.{first_pair}
use Rattle.block.proofs.first_lt_above.Goals as goal

pub returns : goal.returns
returns c =
    first_pair _ _
    (first_from_find _ _ _ (λ i. lt_above c.args.b.now i ≡ true) (λ i. lt_above c.args.b.now i ≡ false) c.find.ensures.ran
    (YieldsList-from_range 0 risks risks refl refl) (λ x q k. search (rules, tests)) (λ x q k. search (rules, tests)))
