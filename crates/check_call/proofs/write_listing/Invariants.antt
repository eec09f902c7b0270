use Rattle.basics.proofs.Common.{◌-◌, Wrote}
use Rattle.check_call.specs.Tabled.{tabled_listing_to}
use Rattle.check_call.proofs.write_listing.Given as goal

abbrev pub invariant-loop-n : goal.invariant-loop-n
invariant-loop-n l = Wrote l.initial.room l.at (tabled_listing_to l.ledger.firsts l.ledger.seconds (l.n - 1)) l.room
