-- The input is one chunk, taken from nothing on; what `finish` leaves in front of the output is its text, and goes into the room where it has its
-- length. Assumes nothing.
use Rattle.basics.proofs.Common.{◌≡◌, [], length, take, sym, arith, length-take-le, rules}
use Rattle.text_answer.specs.Printing.{Printed}
use Rattle.quarter_text.specs.Printout.{quarter_text}
use Rattle.quarter.proofs.Calls.{at_once, text_within, no_room, taken_over, promised}
use Rattle.quarter.proofs.quarter_call.Goals.{After-finish-length}
use Rattle.quarter.proofs.quarter_call.Goals as goal

pub take_chunk-q-requires : goal.take_chunk-q-requires
take_chunk-q-requires c = ([], c.start.ensures _ _ (search rules) (search rules))

pub finish-length-requires : goal.finish-length-requires
finish-length-requires c = (_, (_, c.take_chunk-q.ensures.after [] (c.start.ensures _ _ (search rules) (search rules))))

text : (c : After-finish-length) → Printed (quarter_text c.args.input.now) c.finish-length.result c.take_chunk-q.new.out c.finish-length.new.out
text c = at_once _ (c.start.ensures _ _ (search rules) (search rules)) c.take_chunk-q.ensures c.finish-length.ensures

pub returns-then-room-length : goal.returns-then-room-length
returns-then-room-length c =
    promised _ _ _ (no_room _ _ (text (goal.at.returns-then-room-length c).After-finish-length) (omega (arith, c.if-room-length.true)))

pub slice_bounds-out-end : goal.slice_bounds-out-end
slice_bounds-out-end c = text_within _ c.args.room.now (text (goal.at.slice_bounds-out-end c).After-finish-length)

within : (c : After-finish-length) → length (take c.finish-length.result c.finish-length.new.out) ≡ c.finish-length.result
within c = length-take-le _ _ (text_within _ c.args.room.now (text c))

pub slice_bounds-copy_text-end : goal.slice_bounds-copy_text-end
slice_bounds-copy_text-end c = sym (within (goal.at.slice_bounds-copy_text-end c).After-finish-length)

pub copy_text-requires : goal.copy_text-requires
copy_text-requires c = omega (arith, within (goal.at.copy_text-requires c).After-finish-length, c.if-room-length.false)

pub returns : goal.returns
returns c =
    let f = (goal.at.returns c).After-finish-length in
    promised _ _ _ (taken_over _ _ (text f) (omega (arith, c.if-room-length.false)) (rw (within f) at c.copy_text.ensures))
