use Rattle.basics.proofs.Common.{◌+◌}
use Rattle.codes.specs.declared.Code.TheVariants.{Rsk}
use Rattle.places.specs.Places.{tabled}
use Rattle.ledger.proofs.Numbers.{Copied}
use Rattle.ledger.proofs.Ledger.block_numbers.Given as goal

abbrev pub invariant-loop-i : goal.invariant-loop-i
invariant-loop-i l = Copied (λ j. tabled l.self.firsts Rsk l.block (j + 1)) (λ j. tabled l.self.seconds Rsk l.block (j + 1)) l.initial.numbers l.i l.numbers
