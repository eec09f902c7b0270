-- What the room began with and what the last read put behind it are one stretch of the input. Assumes nothing.
use Rattle.std.proofs.Common.{◌≡◌, ℕ, ◌+◌, ◌≤◌, List, ◌++◌, length, take, drop, sym, ap, ◌∙◌, subst, length-take-le, take-add, drop_at, rules}
use Rattle.std.proofs.lemmas.List.{take-append-le}
use borrow.Rule.Slice.PartMut.{put_mid, post_of, take_put}
use Rattle.std.specs.Io.KnownBytes.{Consumes}
use Rattle.std.proofs.KnownBytes.{Consumes-trans}
use Rattle.stdio.proofs.read_all.Goals as goal

taken_more : (a k n : ℕ) (room part : List ℕ) → a ≤ length room → n ≤ length part
    → take a room ++ take n part ≡ take (a + n) (put_mid a k room part)
taken_more a k n room part within fits =
    let after = post_of a k room in
    let front = take_put a k room part within in
    let back = ap (take n) (drop_at (take a room) (part ++ after) a (length-take-le a room within)) ∙ take-append-le n part after fits in
    sym (take-add a n (put_mid a k room part) ∙ ap (λ l. l ++ take n (drop a (put_mid a k room part))) front ∙ ap (λ l. take a room ++ l) back)

pub loop-at-preserved : goal.loop-at-preserved
loop-at-preserved g c = record {
  within = search rules;
  kept = search rules;
  taken =
      subst (Consumes _ _) (taken_more c.loop-at.at _ c.in_ok-n.n c.loop-at.room c.read_some.new.room c.loop-at.invariant.within (search rules))
      (Consumes-trans _ _ _ _ _ c.loop-at.invariant.taken c.in_ok-n.ensures.taken.0);
}
