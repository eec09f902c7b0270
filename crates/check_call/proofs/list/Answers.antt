-- What is counted is the listing's length, by which rule 14 goes; then it is written. Assumes nothing.
use Rattle.basics.proofs.Common.{◌≡◌, ℕ, ◌*◌, ◌<◌, ◌≤◌, List, [], ◌∷◌, ◌++◌, length, drop, sym, refl, ap, ◌∙◌, arith}
use Rattle.needs.specs.Listing.{listed_bytes}
use Rattle.needs.specs.Needing.{most_listed}
use Rattle.text_answer.proofs.LentRoom.{lent_short, lent_filled}
use Rattle.check_call.specs.Tabled.{tabled_listing}
use Rattle.check_call.proofs.Listing.{count_most, counted_long}
use Rattle.check_call.proofs.list.Goals.{After-count_unmet-length}
use Rattle.check_call.proofs.list.Goals as goal

-- the length that is worked out is the listing's
long : (c : After-count_unmet-length) → listed_bytes * c.count_unmet-length.result ≡ length (tabled_listing c.args.ledger.now.firsts c.args.ledger.now.seconds)
long c =
    ap (λ (n : ℕ). listed_bytes * n) c.count_unmet-length.ensures ∙ sym (counted_long c.args.ledger.now.firsts c.args.ledger.now.seconds most_listed)

pub overflow_mul-length : goal.overflow_mul-length
overflow_mul-length c =
    omega (arith, c.count_unmet-length.ensures, count_most c.args.ledger.now.firsts c.args.ledger.now.seconds most_listed)

pub returns-then-room-length : goal.returns-then-room-length
returns-then-room-length c =
    let h : length c.args.room.now < listed_bytes * c.count_unmet-length.result = omega (arith, c.if-room-length.true) in
    lent_short _ _ refl (long (goal.at.returns-then-room-length c).After-count_unmet-length) h

pub write_listing-requires : goal.write_listing-requires
write_listing-requires c = omega (arith, c.if-room-length.false, long (goal.at.write_listing-requires c).After-count_unmet-length)

pub returns-then-length-gt0 : goal.returns-then-length-gt0
returns-then-length-gt0 c =
    let count_unmet_length = (goal.at.returns-then-length-gt0 c).After-count_unmet-length in
    let h : listed_bytes * c.count_unmet-length.result ≤ length c.args.room.now = omega (arith, c.if-room-length.false) in
    lent_filled _ _ refl (long count_unmet_length) h
    (c.write_listing.ensures ∙ ap (λ (n : ℕ). tabled_listing c.args.ledger.now.firsts c.args.ledger.now.seconds ++ drop n c.args.room.now) (sym (long count_unmet_length)))

-- a listing without a byte leaves the room as it was
none_written : (t r : List ℕ) (n : ℕ) → n ≡ length t → n ≤ 0 → r ≡ t ++ drop n r
none_written [] r n e h = rw e refl
none_written (x ∷ t) r n e h = absurd (omega arith)

pub returns-else-length-gt0 : goal.returns-else-length-gt0
returns-else-length-gt0 c =
    let l = long (goal.at.returns-else-length-gt0 c).After-count_unmet-length in
    let h : listed_bytes * c.count_unmet-length.result ≤ length c.args.room.now = omega (arith, c.if-room-length.false) in
    lent_filled _ _ refl l h (none_written _ c.args.room.now _ l (omega (arith, c.if-length-gt0.false)))
