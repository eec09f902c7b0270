-- Before each turn the lines of those before the n-th stand in front. Assumes nothing.
use Rattle.basics.proofs.Common.{◌+◌, ◌≤◌, length, ascending, nothing}
use Rattle.check_call.specs.Tabled.{one_at}
use Rattle.check_call.proofs.Listing.{room_left, next_put}
use Rattle.check_call.proofs.write_listing.Goals.{In-loop-n}
use Rattle.check_call.proofs.write_listing.Goals as goal

pub loop-n-init : goal.loop-n-init
unfolding ascending
loop-n-init c = nothing _

-- the room that is left has the next line's bytes
left : (c : In-loop-n) → c.loop-n.at + length (one_at c.args.ledger.now.firsts c.args.ledger.now.seconds c.loop-n.n) ≤ length c.loop-n.room
left c =
    room_left c.args.ledger.now.firsts c.args.ledger.now.seconds c.loop-n.n c.loop-n.auto.n c.loop-n.invariant c.loop-n-test.true c.requires

pub write_unmet-at-requires : goal.write_unmet-at-requires
write_unmet-at-requires c = (c.loop-n.auto.n, c.loop-n-test.true, left (goal.at.write_unmet-at-requires c).In-loop-n)

pub loop-n-preserved : goal.loop-n-preserved
loop-n-preserved c =
    next_put c.args.ledger.now.firsts c.args.ledger.now.seconds c.loop-n.n c.loop-n.auto.n c.loop-n.invariant (left (goal.at.loop-n-preserved c).In-loop-n) c.write_unmet-at.ensures
