use Rattle.basics.proofs.Common.{ℕ}
use Rattle.wide.specs.Value.{value}
use Rattle.root.specs.Steps.{After, Aligned}
use Rattle.root.proofs.root_and_steps.Given as goal

abbrev pub invariant-loop-j : goal.invariant-loop-j
invariant-loop-j l =
    (n : ℕ) → Aligned n l.count (value l.initial.window) → After n l._j (value l.window) l.root l.rest
