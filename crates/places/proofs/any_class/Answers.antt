-- The marks of a code's classes stand beside one another, within the table. Assumes nothing.
use Rattle.basics.proofs.Common.{◌≡◌, ◌+◌, ◌-◌, ◌≤◌, false, ◌||◌, ltb, take, drop, fold, ◌∙◌, rules}
use Rattle.std.proofs.iter.runs.Made.{chains}
use Rattle.places.specs.Places.{places}
use Rattle.places.proofs.Marks.{classes_most, classes_marked}
use Rattle.places.proofs.any_class.Goals.{After-index_of-first}
use Rattle.places.proofs.any_class.Goals as goal

within : (c : After-index_of-first) → c.index_of-first.result + c.args.classes ≤ places
within c = rw c.index_of-first.ensures.0 (classes_most _ _ _ c.requires)

pub slice_bounds-iter-end : goal.slice_bounds-iter-end
slice_bounds-iter-end c = let h = within (goal.at.slice_bounds-iter-end c).After-index_of-first in search rules

pub returns : goal.returns
returns c =
    let first = c.index_of-first.result in
    let n = c.args.classes in
    let marks = c.args.marks.now in
    let h = within (goal.at.returns c).After-index_of-first in
    let joined : c.fold.result ≡ fold (λ any y. any || ltb 0 y) false (take (first + n - first) (drop first marks)) = search (rules, chains) in
    joined ∙ classes_marked marks c.args.code c.args.block n c.index_of-first.ensures.0 (search rules)
