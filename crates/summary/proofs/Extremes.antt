-- The first extreme of some sheets by a comparison, sheet after sheet: it is among them, none is better, and those before it are worse. Assumes nothing.
use Rattle.basics.proofs.Common.{◌≡◌, ℕ, ◌<◌, ◌≤◌, Bool, true, false, cond, ltb, List, [], ◌∷◌, ◌++◌, refl, ap, ◌∙◌, append_assoc, append-nil, arith, ltb-false, ltb-true, append_snoc, Each, pick}
use Rattle.basics.proofs.Common.{each_append, by_test}
use Rattle.std.specs.Ordering.{is_lt, nat_cmp, on, ord_min, ord_max}
use Rattle.std.specs.declared.cmp.Ordering.TheVariants.{Less, Equal, Greater}
use Rattle.summary.specs.Summaries.{leading, first_extreme, is_smaller, is_larger, FirstExtreme}
use Rattle.summary.specs.declared.Accepted.{Accepted}

-- ---- the library's smaller and larger of two by their buffers

led_lem : (t u : Bool) (a b : Accepted) → cond (is_lt (cond t Less (cond u Equal Greater))) b a ≡ pick t b a
unfolding pick
led_lem true u a b = refl
led_lem false true a b = refl
led_lem false false a b = refl

pub smaller_is : (a b : Accepted) → ord_min (on (λ (x : Accepted). x.buffer) nat_cmp) a b ≡ leading is_smaller a b
smaller_is a b = led_lem (ltb b.buffer a.buffer) _ a b

-- of equal ones the second
pub larger_is : (a b : Accepted) → ord_max (on (λ (x : Accepted). x.buffer) nat_cmp) b a ≡ leading is_larger a b
larger_is a b = led_lem (ltb a.buffer b.buffer) _ a b

-- ---- sheet after sheet

-- one sheet more, behind the others
pub first_extreme_more : (before : ℕ → ℕ → Bool) (a : Accepted) (bs : List Accepted) (b : Accepted) → first_extreme before a (bs ++ (b ∷ [])) ≡ leading before (first_extreme before a bs) b
unfolding first_extreme
first_extreme_more before a [] b = refl
first_extreme_more before a (c ∷ bs) b = first_extreme_more before (leading before a c) bs b

pub each_map : {P Q : Accepted → Type 0} → ((y : Accepted) → P y → Q y) → (xs : List Accepted) → Each P xs → Each Q xs
each_map f [] p = tt
each_map f (a ∷ xs) p = (f a p.0, each_map f xs p.1)

-- a comparison of buffers: what it says, and what it says where it fails
record Compares (before : ℕ → ℕ → Bool) (AtLeast Better : ℕ → ℕ → Type 0) : Type 0 where
  holds : (x y : ℕ) → before x y ≡ true → Better x y
  fails : (x y : ℕ) → before y x ≡ false → AtLeast x y
  itself : (x : ℕ) → AtLeast x x
  weaker : (x y z : ℕ) → Better x y → AtLeast y z → Better x z
  at_least : (x y : ℕ) → Better x y → AtLeast x y

module _ {before : ℕ → ℕ → Bool} {AtLeast Better : ℕ → ℕ → Type 0} (C : Compares before AtLeast Better) where
  one_more : {xs : List Accepted} {x : Accepted} → FirstExtreme AtLeast Better xs x → (b : Accepted) → FirstExtreme AtLeast Better (xs ++ (b ∷ [])) (leading before x b)
  one_more {xs} {x} F b =
      by_test (λ y. FirstExtreme AtLeast Better (xs ++ (b ∷ [])) y) (before b.buffer x.buffer) b x
      (λ t.
      let g = C.holds _ _ t in
      let all : Each (λ y. Better b.buffer y.buffer) xs = each_map (λ y h. C.weaker _ _ _ g h) xs F.extreme in
      record {
        earlier = xs;
        later = [];
        among = refl;
        extreme = each_append _ xs (b ∷ []) (each_map (λ y h. C.at_least _ _ h) xs all) (C.itself _, tt);
        first = all;
      })
      (λ t.
      record {
        earlier = F.earlier;
        later = F.later ++ (b ∷ []);
        among = ap (λ (l : List Accepted). l ++ (b ∷ [])) F.among ∙ append_assoc F.earlier (x ∷ F.later) (b ∷ []);
        extreme = each_append _ xs (b ∷ []) F.extreme (C.fails _ _ t, tt);
        first = F.first;
      })

  all_more : (bs : List Accepted) {xs : List Accepted} {x : Accepted} → FirstExtreme AtLeast Better xs x → FirstExtreme AtLeast Better (xs ++ bs) (first_extreme before x bs)
  unfolding first_extreme
  all_more [] {xs} {x} F = rw append-nil F
  all_more (b ∷ bs) {xs} {x} F = rw (← append_snoc xs b bs) (all_more bs (one_more F b))

  first_extreme_of : (a : Accepted) (xs : List Accepted) → FirstExtreme AtLeast Better (a ∷ xs) (first_extreme before a xs)
  first_extreme_of a xs = all_more xs (record { earlier = []; later = []; among = refl; extreme = (C.itself _, tt); first = tt })

-- no buffer is smaller, and no earlier sheet has it
pub smallest_first : (a : Accepted) (xs : List Accepted) → FirstExtreme ◌≤◌ ◌<◌ (a ∷ xs) (first_extreme is_smaller a xs)
smallest_first =
    first_extreme_of (record {
      holds = λ x y t. ltb-true x y t;
      fails = λ x y t. ltb-false y x t;
      itself = λ x. omega arith;
      weaker = λ x y z h k. omega arith;
      at_least = λ x y h. omega arith;
    })

-- no buffer is larger, and no earlier sheet has it
pub largest_first : (a : Accepted) (xs : List Accepted) → FirstExtreme (λ x y. y ≤ x) (λ x y. y < x) (a ∷ xs) (first_extreme is_larger a xs)
largest_first =
    first_extreme_of (record {
      holds = λ x y t. ltb-true y x t;
      fails = λ x y t. ltb-false x y t;
      itself = λ x. omega arith;
      weaker = λ x y z h k. omega arith;
      at_least = λ x y h. omega arith;
    })
