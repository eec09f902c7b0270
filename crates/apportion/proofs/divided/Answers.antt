-- Whenever the loop's test is reached, the first parts are divided, and what is left of K is K less their quotients. Assumes nothing.
use Rattle.basics.proofs.Common.{◌≡◌, ◌∙◌, length-map, sum_to, arith, listed_start, listed_more, listed_all}
use Rattle.std.proofs.lemmas.List.{map-set}
use Rattle.sizes.specs.Sizes.{parts}
use Rattle.apportion.proofs.Parts.{base_is, remainder_is, takes, left_after, left_all}
use Rattle.apportion.proofs.divided.Goals as goal

pub loop-part-init : goal.loop-part-init
unfolding sum_to
loop-part-init c =
    let l = c.told-shares in
    (listed_start _ _ _ (length-map _ _ ∙ l), listed_start _ _ _ (length-map _ _ ∙ l), omega arith)

pub overflow_sub-left : goal.overflow_sub-left
overflow_sub-left c =
    let p = c.requires in
    takes _ _ _ p _ _ _ c.loop-part-test.true (base_is _ _ _ p _ _ c.part_of-by.ensures.0) c.loop-part.invariant.2

pub loop-part-preserved : goal.loop-part-preserved
loop-part-preserved c =
    let p = c.requires in
    let w = c.loop-part-test.true in
    let i = c.loop-part.invariant in
    let e = c.part_of-by.ensures in
    let q = base_is _ _ _ p _ _ e.0 in
    let l = c.loop-part in (
      rw (map-set (λ d. d.quotient) l.shares l.part c.part_of-by.result) (listed_more _ _ _ _ _ w q i.0),
      rw (map-set (λ d. d.rest) l.shares l.part c.part_of-by.result) (listed_more _ _ _ _ _ w (remainder_is _ _ _ p _ _ e.1) i.1),
      left_after _ _ _ p _ _ _ w q i.2,
    )

pub returns-clause-quotients : goal.returns-clause-quotients
returns-clause-quotients c =
    let l = c.loop-part in
    let w = c.loop-part-test.false in
    let e : l.part ≡ parts = omega (arith, w, l.invariant.0.within) in
    (listed_all _ _ _ _ w l.invariant.0, left_all _ _ _ c.requires _ (rw e at l.invariant.2))
