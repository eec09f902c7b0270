-- Moved up by a word and more, the lower word alone is left of a short number; moved up by less, the lower word's upper digits cross. Assumes
-- nothing.
use Rattle.basics.proofs.Common.{◌-◌, ◌*◌, ◌^◌, ◌<◌, arith}
use Rattle.wide.specs.Value.{value}
use Rattle.root.proofs.Windows.{start_fits, near_room}
use Rattle.root.proofs.aligned.Goals.{Start}
use Rattle.root.proofs.aligned.Goals as goal

-- what is moved up fits two words
fits : (c : Start) → value c.args.n * 4 ^ (63 - c.args.count) < 2 ^ 128
fits c = omega (arith, start_fits (value c.args.n) c.args.count (63 - c.args.count) c.requires.2 (omega (arith, c.requires.1)))

pub overflow_add-result : goal.overflow_add-result
unfolding value
overflow_add-result c =
    let n = c.args.n in
    let bound = fits (goal.at.overflow_add-result c).Start in
    record { fits = near_room n.high n.low c.args.count _ _ (omega (arith, c.requires.1)) (omega (arith, c.if-count-le31.false)) bound }
