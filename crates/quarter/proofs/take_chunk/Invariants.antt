use Rattle.basics.proofs.Common.{◌-◌, length}
use Rattle.quarter.proofs.Chunks.{ChunkSoFar}
use Rattle.quarter.proofs.take_chunk.Given as goal

abbrev pub invariant-loop-at : goal.invariant-loop-at
invariant-loop-at l = ChunkSoFar l.initial.room l.initial.out l.initial.held l.initial.sheets l.initial.summary l.chunk l.room l.out l.held l.sheets l.summary l.at

abbrev pub decreases-loop-at : goal.decreases-loop-at
decreases-loop-at l = length l.chunk - l.at
