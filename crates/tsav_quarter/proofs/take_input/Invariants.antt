-- What is known is that of the bytes that were read. Assumes nothing.
use Rattle.std.proofs.Common.{◌≡◌, ℕ, List, length}
use Rattle.std.specs.Io.KnownBytes.{Consumes}
use Rattle.quarter.specs.Steps.{After}
use Rattle.tsav_quarter.proofs.take_input.Given as goal

abbrev pub invariant-loop : goal.invariant-loop
invariant-loop g l = record {
  begun : (s : List ℕ) × Consumes (g.R.Read.remaining l.initial.input) (g.R.Read.remaining l.input) s × After s l.room l.out l.q;
  chunk_long : length l.chunk ≡ 4096;
}
