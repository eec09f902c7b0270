-- The tables of an admitted line hold it before those that they held; those of a line that isn't admitted are as they were. Assumes nothing.
use Rattle.std.proofs.Math.Logic.{∥∥₁_map}
use Rattle.basics.proofs.Common.{◌∷◌, arith}
use Rattle.ledger.proofs.Tables.{admitted_sound, more_held, more_first, same_held}
use Rattle.ledger.proofs.Ledger.admit.Goals as goal

pub index_for-at-requires : goal.index_for-at-requires
index_for-at-requires c = (admitted_sound c.admit-admitted.ensures c.requires c.in-Ok.is).key

pub invariant_of-self : goal.invariant_of-self
invariant_of-self c =
    record {
      held = ∥∥₁_map c.args.self.now.held (λ w. (
        c.in-Ok.e ∷ w.0,
        more_held w.1 c.admit-admitted.ensures c.in-Ok.is (admitted_sound c.admit-admitted.ensures c.requires c.in-Ok.is) c.index_for-at.ensures.0,
      ));
    }

pub invariant_of-self-in_default : goal.invariant_of-self-in_default
invariant_of-self-in_default c =
    record { held = ∥∥₁_map c.args.self.now.held (λ w. (w.0, same_held w.1 c.admit-admitted.ensures c.in_default.is)) }

pub invariant_of-self-else-at-lt-SECOND_PLACES : goal.invariant_of-self-else-at-lt-SECOND_PLACES
invariant_of-self-else-at-lt-SECOND_PLACES c =
    record {
      held = ∥∥₁_map c.args.self.now.held (λ w. (
        c.in-Ok.e ∷ w.0,
        more_first w.1 c.admit-admitted.ensures c.in-Ok.is (admitted_sound c.admit-admitted.ensures c.requires c.in-Ok.is) c.index_for-at.ensures.0
            (omega (arith, c.if-at-lt-SECOND_PLACES.false)),
      ));
    }
