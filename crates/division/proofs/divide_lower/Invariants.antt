use Rattle.basics.proofs.Common.{◌+◌, ◌*◌, ◌^◌, ◌≤◌}
use Rattle.division.proofs.Quotients.{Between}
use Rattle.division.proofs.divide_lower.Given as goal

abbrev pub invariant-loop-left : goal.invariant-loop-left
invariant-loop-left l = (l.left ≤ 64) × Between (l.above * 2 ^ 64 + l.low) l.low l.d l.held.quotient l.held.rest l.left

abbrev pub decreases-loop-left : goal.decreases-loop-left
decreases-loop-left l = l.left
