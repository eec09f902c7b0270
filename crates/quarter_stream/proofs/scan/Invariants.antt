use Rattle.quarter_stream.proofs.Room.{Scanning}
use Rattle.quarter_stream.proofs.scan.Given as goal

abbrev pub invariant-loop-i : goal.invariant-loop-i
invariant-loop-i l = Scanning l.initial.room l.initial.h l.chunk l.initial.i l.room l.h l.i
