-- The territories before this one are in the sum, and of this one the classes before i. Assumes nothing.
use Rattle.basics.proofs.Common.{◌≡◌, ◌+◌, ◌*◌}
use Rattle.sizes.specs.Sizes.{volume_classes}
use Rattle.guideline.specs.Operational.{charged}
use Rattle.ledger.specs.Numbers.{volumes_of}
use Rattle.ledger.specs.Lines.{OfLines}
use Rattle.judgement.proofs.with_territory.Given as goal

abbrev pub invariant-loop-i : goal.invariant-loop-i
invariant-loop-i l = OfLines l.ledger (λ es. l.sum ≡ charged (volumes_of es) (volume_classes * l.before + l.i))
