-- What is known is that of no bytes at first, and of a chunk's bytes more once it is taken; at the end of the input these are all of its bytes, and after
-- too many sheets the bytes that follow change nothing. Assumes nothing.
use Rattle.std.proofs.Common.{◌≡◌, ℕ, List, [], ◌++◌, IsNone, Some, None, Ok, Option, sym, refl, ap, ◌∙◌, subst, append-nil, arith, rules}
use Rattle.std.specs.Io.KnownBytes.{Consumes, IsAtEnd}
use Rattle.std.proofs.KnownBytes.{Consumes-nil, Consumes-trans}
use Rattle.quarter.specs.declared.Quarter.{Quarter}
use Rattle.quarter.specs.Steps.{After}
use Rattle.quarter.proofs.Chunks.{taken_over}
use Rattle.tsav_quarter.specs.Input.{TakenAll}
use Rattle.tsav_quarter.proofs.take_input.Goals.{then-ended-via-then-ended, then-ended-via-else-ended+then-is_none}
use Rattle.tsav_quarter.proofs.take_input.Goals as goal

-- nothing is held where the test says so
none_held : {A : Type 0} (h : Option A) → IsNone h → h ≡ None
none_held None e = refl
none_held (Some h) e = cc

too_many : (left rest : Option (List ℕ)) (s room out : List ℕ) (q : Quarter) → Consumes left rest s → After s room out q → IsNone q.held
    → TakenAll left room out (Ok q)
too_many None rest s room out q took known over = (s, known)
too_many (Some xs) None s room out q took known over = absurd took
too_many (Some xs) (Some ys) s room out q took known over =
    subst (λ u. After u room out q) (sym took) ((taken_over room out ys q (none_held q.held over)).after s known)

all_taken : (left rest : Option (List ℕ)) (s room out : List ℕ) (q : Quarter) → Consumes left rest s → After s room out q → IsAtEnd rest
    → TakenAll left room out (Ok q)
all_taken None rest s room out q took known end = (s, known)
all_taken (Some xs) None s room out q took known end = absurd took
all_taken (Some xs) (Some ys) s room out q took known end =
    subst (λ u. After u room out q) (sym (took ∙ ap (λ l. s ++ l) end ∙ append-nil s)) known

pub loop-init : goal.loop-init
loop-init g c = record { begun = ([], Consumes-nil _, c.start-q.ensures _ _ (search rules) (search rules)); chunk_long = refl }

pub loop-preserved : goal.loop-preserved
loop-preserved g c =
    let (s, took, known) = c.loop.invariant.begun in
    record {
      begun = (s ++ _, Consumes-trans _ _ _ _ _ took c.in_ok-n.ensures.taken.0, search (rules, c.take_chunk-q.ensures.after s known));
      chunk_long = search rules;
    }

pub returns-then-ended : goal.returns-then-ended
returns-then-ended g c =
    let (s, took, known) = c.loop.invariant.begun in
    let more = Consumes-trans _ _ _ _ _ took c.in_ok-n.ensures.taken.0 in
    let after = c.take_chunk-q.ensures.after s known in
    elim c.then-ended.branch [
      | then-ended-via-then-ended w ↦
          all_taken _ _ _ _ _ _ more after
          (c.in_ok-n.ensures.taken.1 (omega (arith, w.if-ended.true)) (omega (arith, c.in_ok-n.ensures.within.1, c.loop.invariant.chunk_long)))
      | then-ended-via-else-ended+then-is_none w ↦ too_many _ _ _ _ _ _ more after w.if-is_none.ensures
    ]
