-- The listing is what is gathered of the lines that can need another, by their number: these ascend as the sheet's lines do, and each line that is
-- listed is one of them. So it has at most a line for each. Assumes nothing.
-- In order: what is gathered of numbers, by two tests; which lines are listed; the listing.
use Rattle.basics.proofs.Common.{◌≡◌, ℕ, zero, suc, ◌<◌, ◌≤◌, Bool, true, false, not, ltb, List, [], ◌∷◌, ◌++◌, length, Some, None, Option, sym, refl, ap, ◌∙◌, append-nil, arith, ℕ_discrete}
use Rattle.basics.proofs.Common.{ascending, Each, pick, if_true, if_false, by_test, never}
use Rattle.basics.proofs.Ascents.{most_ascending}
use Rattle.codes.specs.Codes.{rank}
use Rattle.codes.specs.declared.Code.{Code, TheVariants.Crd}
use Rattle.codes.proofs.Table.{each_code, block_most}
use Rattle.sheet_line.specs.Rules.{AcceptedLine}
use Rattle.sheet_line.specs.declared.Entry.{Entry}
use Rattle.places.specs.Entries.{has_key, lookup, first_of, second_of}
use Rattle.order.specs.Order.{key_of, key_for, last_key, Ascending}
use Rattle.order.specs.Reading.{print_by}
use Rattle.places.proofs.Keys.{same_key, has_key_lem, no_key, own_key}
use Rattle.order.proofs.Ascent.{none_above, below_base}
use Rattle.needs.specs.Needs.{label, label_for, need_of, met, all_zero, unmet_with, unmet}
use Rattle.needs.specs.Listing.{listed_bytes, listed_for, line_for, listing}
use Rattle.needs.specs.Needing.{most_listed, longest_listing, needing, line_at, listed_to}
use Rattle.needs.specs.declared.Label.{Label}
use Rattle.needs.proofs.Labels.{length_listed}
use Rattle.needs.proofs.LineNumbers.{key_at, rises, number_below, Placed, placed}

-- ---- what is gathered of numbers, by two tests

module _ {A : Type 0} (f : ℕ → List A) where
  pub same_gathered : (p q : ℕ → Bool) (n : ℕ) → ((i : ℕ) → i < n → p (suc i) ≡ q (suc i)) → ascending p f n ≡ ascending q f n
  unfolding ascending
  same_gathered p q zero h = refl
  same_gathered p q (suc n) h = rw (same_gathered p q n (λ i l. h i (omega arith)), h n (omega arith))

  -- where none above m passes, the first m are all
  none_gathered : (p : ℕ → Bool) (m n : ℕ) → m ≤ n → ((i : ℕ) → m ≤ i → i < n → p (suc i) ≡ false) → ascending p f n ≡ ascending p f m
  unfolding ascending pick
  none_gathered p m zero l h = let e : m ≡ 0 = omega arith in rw e
  none_gathered p m (suc n) l h =
      elim (ℕ_discrete m (suc n)) [
        | yes e ↦ rw e
        | no e ↦ rw (h n (omega arith) (omega arith)) (append-nil _ ∙ none_gathered p m n (omega arith) (λ i a b. h i a (omega arith)))
      ]

-- ---- which lines are listed

-- 1 where a test holds
abbrev pub one_if : Bool → ℕ
one_if t = pick t 1 0

pub is_one : (t : Bool) → ltb 0 (one_if t) ≡ t
unfolding pick
is_one true = refl
is_one false = refl

-- a line whose need is unmet has a companion
pub has_companion : (first : Code → ℕ → ℕ → ℕ) (a b : ℕ) (l : Label) → unmet_with first a b l ≡ true → (m : Label) × (need_of l ≡ Some m)
unfolding unmet_with
has_companion first a b l =
    by_test (λ t. t ≡ true → (m : Label) × (need_of l ≡ Some m)) (all_zero a b) false _ (λ t q. never (cc)) (λ t q. go (need_of l) refl q)
  where
    go : (n : Option Label) → need_of l ≡ n → not (met first n) ≡ true → (m : Label) × (need_of l ≡ Some m)
    go None e q = never (cc)
    go (Some m) e q = (m, e)

-- so its line is one of the listing's
pub unmet_long : (first : Code → ℕ → ℕ → ℕ) (a b : ℕ) (l : Label) → unmet_with first a b l ≡ true → length (listed_for l (need_of l)) ≡ listed_bytes
unmet_long first a b l t = let m = has_companion first a b l t in ap (λ (n : Option Label). length (listed_for l n)) m.1 ∙ length_listed l m.0

module _ (es : List Entry) where
  -- whether the line with a code, block and class has an unmet need, by some of the lines
  abbrev listed : Entry → ℕ
  listed d = one_if (unmet es d)

  abbrev listed_among : List Entry → ℕ → ℕ
  listed_among part n = let l = needing n in lookup listed part l.code l.block l.class

  abbrev test : List Entry → ℕ → Bool
  test part n = ltb 0 (listed_among part n)

  -- what is looked up is what the amounts that are looked up say
  abbrev Says : List Entry → Code → ℕ → ℕ → Type 0
  Says part k b c =
      lookup listed part k b c ≡ one_if (unmet_with (lookup first_of es) (lookup first_of part k b c) (lookup second_of part k b c) (label k b c))

  looked_up : (part : List Entry) (k : Code) (b c : ℕ) → Says part k b c
  unfolding lookup unmet_with all_zero pick
  looked_up [] k b c = refl
  looked_up (e ∷ part) k b c = go (looked_up part k b c) (has_key k b c e) refl
    where
      go : Says part k b c → (t : Bool) → has_key k b c e ≡ t → Says (e ∷ part) k b c
      go ih true u =
          let s = same_key k b c e u in
          let x : lookup first_of (e ∷ part) k b c ≡ e.first = if_true _ u in
          let y : lookup second_of (e ∷ part) k b c ≡ e.second = if_true _ u in
          if_true _ u ∙ sym (λ i. one_if (unmet_with (lookup first_of es) (x i) (y i) (label (s.code i) (s.block i) (s.class i))))
      go ih false u =
          let x : lookup first_of (e ∷ part) k b c ≡ lookup first_of part k b c = if_false _ u in
          let y : lookup second_of (e ∷ part) k b c ≡ lookup second_of part k b c = if_false _ u in
          if_false _ u ∙ ih ∙ sym (λ i. one_if (unmet_with (lookup first_of es) (x i) (y i) (label k b c)))

  module _ (e : Entry) (part : List Entry) (p : Ascending (e ∷ part)) where
    -- a line that isn't listed changes nothing
    passed_over : unmet es e ≡ false → (k : Code) (b c : ℕ) → lookup listed (e ∷ part) k b c ≡ lookup listed part k b c
    unfolding lookup
    passed_over t k b c = go (has_key k b c e) refl
      where
        go : (u : Bool) → has_key k b c e ≡ u → lookup listed (e ∷ part) k b c ≡ lookup listed part k b c
        go true u =
            let s = same_key k b c e u in
            let w : key_of k b c ≡ key_for e = rw (s.code, s.block, s.class) in
            if_true _ u ∙ if_false _ t ∙ sym (none_above listed part p.1 k b c (omega (arith, w, p.0)))
        go false u = if_false _ u

    -- nor does one whose key is above
    before : (k : Code) (b c : ℕ) → key_of k b c < key_for e → lookup listed (e ∷ part) k b c ≡ lookup listed part k b c
    unfolding lookup
    before k b c h = if_false _ (no_key k b c e (λ s. let z : key_of k b c ≡ key_for e = rw (s.code, s.block, s.class) in omega arith))

    -- where a line is listed, what is gathered ends in it, and before it stands what is gathered of the lines before
    record Ends (n : ℕ) : Type 0 where
      last : ℕ
      within : last < n
      is_key : key_at (suc last) ≡ key_for e
      ends : ascending (test (e ∷ part)) line_at n ≡ ascending (test part) line_at last ++ line_for e

    ends_in : AcceptedLine e → unmet es e ≡ true → (n : ℕ) → n ≤ most_listed → key_for e < key_at (suc n) → Ends n
    unfolding ascending lookup
    ends_in a t n h l =
        let m = has_companion (lookup first_of es) e.first e.second (label_for e) t in
        at_place (placed e.code e.block e.class a.key m.1)
      where
        at_place : Placed (label_for e) → Ends n
        at_place (j, k, q) =
            let w : key_at (suc j) ≡ key_for e = ap (λ (x : Label). key_of x.code x.block x.class) q in
            let o : test (e ∷ part) (suc j) ≡ true =
            ap (λ (x : Label). ltb 0 (lookup listed (e ∷ part) x.code x.block x.class)) q
            ∙ ap (λ (x : ℕ). ltb 0 x) (if_true _ (has_key_lem _ _ _ e (own_key e)) ∙ if_true _ t) in
            let i : j < n = number_below j n k (omega (arith, w, l)) in
            record {
              last = j;
              within = i;
              is_key = w;
              ends =
                  none_gathered line_at (test (e ∷ part)) (suc j) n (omega arith)
                  (λ x y z. ap (λ (v : ℕ). ltb 0 v) (none_above listed (e ∷ part) p _ _ _ (omega (arith, w, rises j x (omega arith) (omega arith)))))
                  ∙ ap (λ (x : List ℕ). ascending (test (e ∷ part)) line_at j ++ x) (if_true _ o ∙ ap (λ (x : Label). listed_for x (need_of x)) q)
                  ∙ ap (λ (x : List ℕ). x ++ line_for e)
                  (same_gathered line_at (test (e ∷ part)) (test part) j (λ x y. ap (λ (v : ℕ). ltb 0 v) (before _ _ _ (omega (arith, w, rises x j y (omega arith))))));
            }

  text : List Entry → List ℕ
  text part = print_by (λ e. pick (unmet es e) (line_for e) []) part

  gathered : (part : List Entry) → Each AcceptedLine part → Ascending part → (n : ℕ) → n ≤ most_listed → last_key part < key_at (suc n)
      → text part ≡ ascending (test part) line_at n
  unfolding text print_by lookup ascending
  gathered [] a p n h l = sym (none_gathered line_at (test []) 0 n (omega arith) (λ i x y. refl))
  gathered (e ∷ part) a p n h l = go (gathered part a.1 p.1) (unmet es e) refl
    where
      go : ((n : ℕ) → n ≤ most_listed → last_key part < key_at (suc n) → text part ≡ ascending (test part) line_at n) → (t : Bool) → unmet es e ≡ t
          → text part ++ pick (unmet es e) (line_for e) [] ≡ ascending (test (e ∷ part)) line_at n
      go ih false t =
          ap (λ (x : List ℕ). text part ++ x) (if_false _ t) ∙ append-nil (text part)
          ∙ ih n h (omega (arith, p.0, l))
          ∙ same_gathered line_at (test part) (test (e ∷ part)) n (λ i u. ap (λ (x : ℕ). ltb 0 x) (sym (passed_over e part p t _ _ _)))
      go ih true t =
          let w = ends_in e part p a.0 t n h l in
          ap (λ (x : List ℕ). text part ++ x) (if_true _ t)
          ∙ ap (λ (x : List ℕ). x ++ line_for e) (ih w.last (omega (arith, h, w.within)) (omega (arith, p.0, w.is_key)))
          ∙ sym w.ends

-- ---- the listing

rank_most : (k : Code) → rank k ≤ rank Crd
rank_most = each_code (λ k. rank k ≤ rank Crd) (omega arith)

-- every key is below that of a line past the last one
below_all : (es : List Entry) → Each AcceptedLine es → last_key es < key_at (suc most_listed)
unfolding key_of needing pick
below_all [] a = omega arith
below_all (e ∷ es) a = omega (arith, rank_most e.code, block_most e.code e.block, a.0.key.high, (below_base e a.0.key).1)

pub listing_gathered : (es : List Entry) → Each AcceptedLine es → Ascending es → listing es ≡ listed_to (lookup first_of es) (lookup second_of es) most_listed
unfolding listing text
listing_gathered es a p =
    gathered es es a p most_listed (omega arith) (below_all es a)
    ∙ same_gathered line_at _ _ most_listed (λ i h. let l = needing (suc i) in ap (λ (x : ℕ). ltb 0 x) (looked_up es es l.code l.block l.class) ∙ is_one _)

-- a line for each is the most
line_most : (l : Label) (n : Option Label) → length (listed_for l n) ≤ listed_bytes
line_most l None = omega arith
line_most l (Some m) = omega (arith, length_listed l m)

pub longest : (es : List Entry) → Each AcceptedLine es → Ascending es → length (listing es) ≤ longest_listing
longest es a p = rw (listing_gathered es a p) (most_ascending _ line_at listed_bytes (λ n. line_most (needing n) (need_of (needing n))) most_listed)
