-- Lines that ascend: none of them has a key above the last one's, and two such lists with the same figures are one list. Assumes nothing.
use Rattle.basics.proofs.Common.{◌≡◌, ℕ, ◌<◌, Bool, true, false, ltb, List, [], ◌∷◌, sym, refl, ap, ◌∙◌, subst, arith, Each, if_true, if_false, never}
use Rattle.codes.specs.Codes.{rank, Key}
use Rattle.codes.proofs.Table.{rank_one}
use Rattle.sheet_line.specs.Rules.{AcceptedLine}
use Rattle.codes.specs.declared.Code.{Code}
use Rattle.sheet_line.specs.declared.Entry.{Entry}
use Rattle.sheet_line.proofs.PrintedLines.{key_small}
use Rattle.places.specs.Entries.{has_key, lookup, first_of, second_of, mark_of, has_line, SameKey}
use Rattle.order.specs.Order.{SameFigures, key_of, key_for, key_above_0, last_key, Ascending, Ordered, BelowBase, key_precedes}
use Rattle.places.proofs.Keys.{same_key, has_key_lem, no_key, own_key}

-- ---- a key above the last one's

-- a line with another key in the order has another code, block or class
other_place : (k : Code) (b c : ℕ) (e : Entry) → key_for e < key_of k b c → has_key k b c e ≡ false
other_place k b c e h = no_key k b c e (λ s. let z : key_of k b c ≡ key_for e = rw (s.code, s.block, s.class) in omega arith)

pub none_above : (g : Entry → ℕ) (es : List Entry) → Ascending es → (k : Code) (b c : ℕ) → last_key es < key_of k b c → lookup g es k b c ≡ 0
unfolding lookup
none_above g [] a k b c h = refl
none_above g (e ∷ es) a k b c h = if_false _ (other_place k b c e h) ∙ none_above g es a.1 k b c (omega arith)

-- ---- two lists

-- a code's blocks and classes are below the base
pub below_base : (e : Entry) → Key e.code e.block e.class → BelowBase e
below_base e v = let w = key_small e.code e.block e.class v in (omega arith, omega arith)

-- lines that ascend by their keys are in the paper's order
pub ascending_ordered : (es : List Entry) → Each AcceptedLine es → Ascending es → Ordered es
ascending_ordered [] a p = tt
ascending_ordered (e ∷ []) a p = tt
ascending_ordered (e ∷ d ∷ es) a p =
    ((key_precedes d e (below_base d a.1.0.key) (below_base e a.0.key)).0 p.0, ascending_ordered (d ∷ es) a.1 p.1)

-- a key is one code's, one block's and one class's
one_key : (d e : Entry) → BelowBase d → BelowBase e → key_for d ≡ key_for e → SameKey d.code d.block d.class e
unfolding key_of
one_key d e p q h =
    let r : rank d.code ≡ rank e.code = omega arith in
    record { code = rank_one d.code e.code r; block = omega arith; class = omega arith }

-- what is looked up by the key of the last line
at_last : (g : Entry → ℕ) {k : Code} {b c : ℕ} (e : Entry) (es : List Entry) → SameKey k b c e → lookup g (e ∷ es) k b c ≡ g e
unfolding lookup
at_last g e es s = if_true _ (has_key_lem _ _ _ e s)

module _ (es fs : List Entry) (p : Ascending es) (q : Ascending fs) where
  -- where both end in the same line, what is said alike of both is said alike of the lines before
  before : (e : Entry) → last_key es < key_for e → last_key fs < key_for e → {A : Type 0} (h : ℕ → A) (g : Entry → ℕ) (k : Code) (b c : ℕ)
      → h (lookup g (e ∷ es) k b c) ≡ h (lookup g (e ∷ fs) k b c) → h (lookup g es k b c) ≡ h (lookup g fs k b c)
  unfolding lookup
  before e x y h g k b c z = go (has_key k b c e) refl
    where
      go : (t : Bool) → has_key k b c e ≡ t → h (lookup g es k b c) ≡ h (lookup g fs k b c)
      go true u =
          let s = same_key k b c e u in
          let w : key_of k b c ≡ key_for e = rw (s.code, s.block, s.class) in
          rw (none_above g es p k b c (omega arith), none_above g fs q k b c (omega arith))
      go false u = sym (ap h (if_false _ u)) ∙ z ∙ ap h (if_false _ u)

-- a list without the other's last line can't have the same figures
not_below : (es : List Entry) (f : Entry) (fs : List Entry) → Ascending es → last_key es < key_for f
    → has_line es f.code f.block f.class ≡ has_line (f ∷ fs) f.code f.block f.class → ⊥
not_below es f fs a h z =
    let x : has_line es f.code f.block f.class ≡ false = ap (λ (n : ℕ). ltb 0 n) (none_above mark_of es a _ _ _ h) in
    let y : has_line (f ∷ fs) f.code f.block f.class ≡ true = ap (λ (n : ℕ). ltb 0 n) (at_last mark_of f fs (own_key f)) in
    never (cc)

-- the last lines of two lists with the same figures
last_same : (e f : Entry) (es fs : List Entry) → BelowBase e → BelowBase f → Ascending (e ∷ es) → Ascending (f ∷ fs) → SameFigures (e ∷ es) (f ∷ fs) → e ≡ f
last_same e f es fs u v p q w =
    let x : key_for e < key_for f → ⊥ = λ h. not_below (e ∷ es) f fs p h (w.line _ _ _) in
    let y : key_for f < key_for e → ⊥ = λ h. not_below (f ∷ fs) e es q h (sym (w.line _ _ _)) in
    let s = one_key e f u v (omega arith) in
    let i : e.first ≡ f.first = sym (at_last first_of e es (own_key e)) ∙ w.first _ _ _ ∙ at_last first_of f fs s in
    let j : e.second ≡ f.second = sym (at_last second_of e es (own_key e)) ∙ w.second _ _ _ ∙ at_last second_of f fs s in
    λ n. record { code = s.code n; block = s.block n; class = s.class n; first = i n; second = j n }

pub same_lines : (es fs : List Entry) → Each AcceptedLine es → Each AcceptedLine fs → Ascending es → Ascending fs → SameFigures es fs → es ≡ fs
same_lines [] [] a b p q w = refl
same_lines [] (f ∷ fs) a b p q w = absurd (not_below [] f fs tt (key_above_0 f b.0.key.one) (w.line _ _ _))
same_lines (e ∷ es) [] a b p q w = absurd (not_below [] e es tt (key_above_0 e a.0.key.one) (sym (w.line _ _ _)))
same_lines (e ∷ es) (f ∷ fs) a b p q w =
    let x : e ≡ f = last_same e f es fs (below_base e a.0.key) (below_base f b.0.key) p q w in
    let l : last_key fs < key_for e = rw x q.0 in
    let v : SameFigures (e ∷ es) (e ∷ fs) = subst (λ (d : Entry). SameFigures (e ∷ es) (d ∷ fs)) (sym x) w in
    let y : es ≡ fs =
    same_lines es fs a.1 b.1 p.1 q.1
    (record {
      line = λ k b c. before es fs p.1 q.1 e p.0 l (λ n. ltb 0 n) mark_of k b c (v.line k b c);
      first = λ k b c. before es fs p.1 q.1 e p.0 l (λ n. n) first_of k b c (v.first k b c);
      second = λ k b c. before es fs p.1 q.1 e p.0 l (λ n. n) second_of k b c (v.second k b c);
    }) in
    λ n. x n ∷ y n
