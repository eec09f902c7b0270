-- The marks of entries: one for each line, and one among those of a block's RSK and OTH lines where the block exists. Assumes nothing.
-- In order: a mark stands where a line does; the marks of a code and block; whether a block exists.
use Rattle.basics.proofs.Common.{◌≡◌, ℕ, zero, suc, ◌+◌, ◌-◌, ◌<◌, ◌≤◌, Bool, true, false, ◌||◌, eqb, ltb, List, [], ◌∷◌, length, take, drop, fold, sym, refl, ap, ◌∙◌, add-one, arith, length-drop}
use Rattle.basics.proofs.Common.{length-set, get_or-drop, get_or-set_other, get_or-set_same, le-ltb, lt-ltb, ℕ_discrete, length-replicate, get_or-replicate, Each, any_to, pick, any_same, if_true}
use Rattle.basics.proofs.Common.{if_false, if_eq, if_ne}
use native.Mathlib.Nat.{add-sub_cancel_left}
use Rattle.std.proofs.lemmas.List.Sums.{fold_more}
use Rattle.basics.proofs.Existence.{one_of}
use Rattle.sizes.specs.Sizes.{blocks}
use Rattle.codes.specs.Codes.{risk_classes, other_classes, row_of, rank, Key}
use Rattle.codes.proofs.Table.{rows_same, rank_of_row, rank_one}
use Rattle.sheet_line.specs.Rules.{AcceptedLine}
use Rattle.codes.specs.declared.Code.{Code, TheVariants.Rsk, TheVariants.Oth}
use Rattle.sheet_line.specs.declared.Entry.{Entry}
use Rattle.places.specs.Entries.{lookup, mark_of, has_line, SameKey, exists}
use Rattle.places.specs.Places.{places, index_of, index_for, tabled}
use Rattle.places.specs.Marks.{marks_of, has_mark, block_marked}
use Rattle.places.proofs.Keys.{has_key_lem, no_key}
use Rattle.places.proofs.Indexes.{index_most, index_one, other_key}

-- ---- a mark stands where a line does

length_marks : (es : List Entry) → length (marks_of es) ≡ places
unfolding marks_of
length_marks [] = length-replicate {A = ℕ} places 0
length_marks (e ∷ es) = simp length-set (length_marks es)

marks_say : (es : List Entry) → Each AcceptedLine es → (k : Code) (b c : ℕ) → Key k b c → tabled (marks_of es) k b c ≡ lookup mark_of es k b c
unfolding marks_of lookup
marks_say [] all k b c v = get_or-replicate places (index_of k b c) 0 0 (index_most k b c v)
marks_say (e ∷ es) all k b c v =
    let w = all.0.key in
    elim (ℕ_discrete (index_of k b c) (index_for e)) [
      | yes q ↦
          rw q (get_or-set_same (marks_of es) (index_for e) 1 0 (rw length_marks (index_most e.code e.block e.class w)))
          ∙ sym (if_true _ (has_key_lem k b c e (index_one k b c e v w q)))
      | no q ↦
          get_or-set_other (marks_of es) (index_for e) (index_of k b c) 1 0 q ∙ marks_say es all.1 k b c v ∙ sym (if_false _ (other_key k b c e q))
    ]

pub mark_table : (es : List Entry) → Each AcceptedLine es → (k : Code) (b c : ℕ) → Key k b c → has_mark (marks_of es) k b c ≡ has_line es k b c
mark_table es all k b c v = ap (λ (n : ℕ). ltb 0 n) (marks_say es all k b c v)

-- ---- the marks of a code and block

pub or_pick : (s t : Bool) → (s || t) ≡ pick s true t
unfolding pick
or_pick true t = refl
or_pick false t = refl

-- the classes of a code and block follow one another
class_at : (k : Code) (b n : ℕ) → index_of k b (suc n) ≡ index_of k b 1 + n
unfolding index_of
class_at k b n = omega arith

-- their first n marks, joined one after the other
joined : (m : List ℕ) (k : Code) (b n : ℕ) → index_of k b 1 + n ≤ length m
    → fold (λ any y. any || ltb 0 y) false (take n (drop (index_of k b 1) m)) ≡ any_to (has_mark m k b) n
unfolding any_to
joined m k b zero h = refl
joined m k b (suc n) h =
    let first = index_of k b 1 in
    let l : n < length (drop first m) = rw length-drop (omega arith) in
    rw (add-one n, joined m k b n (omega arith), get_or-drop first m n 0, ← class_at k b n) at (fold_more (λ any y. any || ltb 0 y) false (drop first m) n 0 l)
    ∙ or_pick (any_to (has_mark m k b) n) (has_mark m k b (suc n))

pub classes_marked : (m : List ℕ) (k : Code) (b n : ℕ) {first : ℕ} → first ≡ index_of k b 1 → first + n ≤ length m
    → fold (λ any y. any || ltb 0 y) false (take (first + n - first) (drop first m)) ≡ any_to (has_mark m k b) n
classes_marked m k b n {first} e h = rw (add-sub_cancel_left first n, e) (joined m k b n (rw e at h))

-- the places of a code and block up to a class
pub classes_most : (k : Code) (b n : ℕ) → Key k b n → index_of k b 1 + n ≤ places
unfolding index_of
classes_most k b n v = omega (arith, index_most k b n v, v.one)

-- ---- whether a block exists

module _ (e : Entry) (es : List Entry) (b : ℕ) where
  -- a line of this code and block is one of those of its classes
  any_in : (k : Code) → AcceptedLine e → k ≡ e.code → b ≡ e.block → any_to (has_line (e ∷ es) k b) (row_of k b).classes ≡ true
  unfolding lookup
  any_in k a p q =
      let v : Key k b e.class = rw (p, q) a.key in
      one_of _ e.class _ v.one v.most (ap (λ (n : ℕ). ltb 0 n) (if_true _ (has_key_lem k b e.class e (record { code = p; block = q; class = refl }))))

  -- one of another code or block is not
  any_out : (k : Code) (n : ℕ) → ((c : ℕ) → SameKey k b c e → ⊥) → any_to (has_line (e ∷ es) k b) n ≡ any_to (has_line es k b) n
  unfolding lookup
  any_out k n o = any_same _ _ n (λ c l h. ap (λ (n : ℕ). ltb 0 n) (if_false _ (no_key k b c e (o c))))

-- whether a block has one of RSK's lines, or one of OTH's
block_lined : List Entry → ℕ → Bool
block_lined es b = pick (any_to (has_line es Rsk b) risk_classes) true (any_to (has_line es Oth b) other_classes)

either_true : (t : Bool) → pick t true true ≡ true
unfolding pick
either_true true = refl
either_true false = refl

-- the codes whose lines make their block exist are the first two
makes : (k : Code) (b : ℕ) → (row_of k b).makes_block ≡ ltb (rank k) 2
makes k b = rows_same (λ r. r.makes_block) (λ r. ltb r.rank 2) refl k b ∙ ap (λ (n : ℕ). ltb n 2) (rank_of_row k b)

module _ (e : Entry) (es : List Entry) (b : ℕ) (a : AcceptedLine e) where
  -- a line of neither
  lined_out : ((c : ℕ) → SameKey Rsk b c e → ⊥) → ((c : ℕ) → SameKey Oth b c e → ⊥) → block_lined (e ∷ es) b ≡ block_lined es b
  unfolding block_lined
  lined_out o p = rw (any_out e es b Rsk risk_classes o, any_out e es b Oth other_classes p)

  -- one of another block
  other_block : (e.block ≡ b → ⊥) → block_lined es b ≡ block_lined (e ∷ es) b
  other_block n = sym (lined_out (λ c s. n (sym s.block)) (λ c s. n (sym s.block)))

  abbrev Step : Type 0
  Step = pick (row_of e.code e.block).makes_block (pick (eqb e.block b) true (block_lined es b)) (block_lined es b) ≡ block_lined (e ∷ es) b

  -- one of a code that makes its block exist
  of_block : rank e.code < 2 → (b ≡ e.block → block_lined (e ∷ es) b ≡ true) → Step
  of_block l h =
      if_true _ (makes e.code e.block ∙ lt-ltb _ _ l)
      ∙ elim (ℕ_discrete e.block b) [
        | yes p ↦ if_eq _ p ∙ sym (h (sym p))
        | no n ↦ if_ne _ n ∙ other_block n
      ]

  line_more : Step
  unfolding block_lined
  line_more =
      elim (ℕ_discrete (rank Rsk) (rank e.code)) [
        | yes x ↦ of_block (omega arith) (λ p. if_true _ (any_in e es b Rsk a (rank_one Rsk e.code x) p))
        | no x ↦ elim (ℕ_discrete (rank Oth) (rank e.code)) [
          | yes y ↦ of_block (omega arith) (λ p. rw (any_in e es b Oth a (rank_one Oth e.code y) p) (either_true _))
          | no y ↦
              if_false _ (makes e.code e.block ∙ le-ltb _ _ (omega arith))
              ∙ sym (lined_out (λ c s. x (ap rank s.code)) (λ c s. y (ap rank s.code)))
        ]
      ]

exists_lined : (es : List Entry) (b : ℕ) → Each AcceptedLine es → exists es b ≡ block_lined es b
unfolding exists block_lined lookup any_to pick
exists_lined [] b all = refl
exists_lined (e ∷ es) b all = rw (exists_lined es b all.1) (line_more e es b all.0)

pub exists_table : (es : List Entry) (b : ℕ) → Each AcceptedLine es → (1 ≤ b) × (b ≤ blocks) → block_marked (marks_of es) b ≡ exists es b
unfolding block_lined
exists_table es b all h =
    rw (
      any_same _ _ risk_classes (λ c l k. mark_table es all Rsk b c (record { low = h.0; high = h.1; one = l; most = k })),
      any_same _ _ other_classes (λ c l k. mark_table es all Oth b c (record { low = h.0; high = h.1; one = l; most = k })),
    ) (sym (exists_lined es b all))
