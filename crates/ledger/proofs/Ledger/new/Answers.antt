-- Tables of zeros hold no line. Assumes nothing.
use Rattle.basics.proofs.Common.{[]}
use Rattle.ledger.proofs.Tables.{none_held}
use Rattle.ledger.proofs.Ledger.new.Goals as goal

pub invariant_of-result : goal.invariant_of-result
invariant_of-result c = record { held = ∣ ([], record { tables = none_held; lines = tt }) ∣₁ }

pub returns : goal.returns
returns c = none_held
