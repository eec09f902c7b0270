-- Rule 7 over a list, and over two lists one after the other. Assumes nothing.
use Rattle.basics.proofs.Common.{◌≡◌, ℕ, ◌+◌, ◌-◌, ◌<◌, ◌≤◌, ltb, List, ◌++◌, length, get_or, Some, None, Option, MatchOption, HoldsAt, sym, ap, ◌∙◌, arith, length-append, get_or-append-add}
use Rattle.basics.proofs.Common.{ltb-false, le-ltb, lt-ltb, AllWithin, dec_le, dec_lt, get_or-eq_default, get_or-append, FoundAt, none_passes, sought_found, sought_none}
use Rattle.basics.proofs.Firsts.{first_from_passes, first_unique}
use Rattle.amount.specs.Amount.{limit, above, first_above}

-- where the search for an amount above the limit finds none, there is none
pub none_above : (l : List ℕ) → length l ≤ first_above l → (k : ℕ) → get_or l k 0 ≤ limit
unfolding first_above
none_above l h k =
    elim (dec_le (length l) k) [
      | yes p ↦ omega (arith, get_or-eq_default l 0 p)
      | no p ↦ ltb-false _ _ (none_passes (above l) (length l) h k (omega arith))
    ]

-- and where none is, the search finds none
pub all_within : (l : List ℕ) → ((k : ℕ) → get_or l k 0 ≤ limit) → first_above l ≡ length l
unfolding first_above
all_within l a = sought_none (above l) (length l) (length l) (omega arith) (record { within = omega arith; before = λ k h. le-ltb _ _ (a k) })

-- what a search over the items finds: none above the limit, or the first that is
pub first_at :
    (l : List ℕ) (r : Option ℕ)
    → MatchOption r (AllWithin (λ x. x ≤ limit) l 0 (length l)) (λ k. (k < length l) × HoldsAt (λ x. limit < x) l k × AllWithin (λ x. x ≤ limit) l 0 k)
    → FoundAt (length l) (first_above l) r
unfolding first_above
first_at l None a =
    omega (arith, sought_none (above l) (length l) (length l) (omega arith) (record { within = omega arith; before = λ k h. le-ltb _ _ (a k 0 (omega arith) h) }))
first_at l (Some k) (h, a, b) =
    (sym (sought_found (above l) (length l) k h (lt-ltb _ _ (a 0)) (record { within = omega arith; before = λ i j. le-ltb _ _ (b i 0 (omega arith) j) })), h)

-- of two lists one after the other, the test at a place of the first and of the second
module _ (l m : List ℕ) where
  test_first : (k : ℕ) → k < length l → above (l ++ m) k ≡ above l k
  test_first k h = ap (λ (x : ℕ). ltb limit x) (get_or-append l m 0 k h)

  test_second : (k : ℕ) → above (l ++ m) (length l + k) ≡ above m k
  test_second k = ap (λ (x : ℕ). ltb limit x) (get_or-append-add l m k 0)

  -- a position in the first
  pub first_in : first_above l < length l → first_above (l ++ m) ≡ first_above l
  unfolding first_above
  first_in h =
      let f = first_from_passes (above l) 0 (length l) in
      first_unique (above (l ++ m)) (length (l ++ m)) (first_above l)
      (record {
        low = omega arith;
        high = omega (arith, length-append l m);
        before = λ k p q. test_first k (omega arith) ∙ f.before k p q;
        passes = λ q. test_first (first_above l) h ∙ f.passes (omega arith);
      })

  -- a position in the second, where the first has none
  pub first_after : length l ≤ first_above l → first_above (l ++ m) ≡ length l + first_above m
  unfolding first_above
  first_after h =
      let g = first_from_passes (above m) 0 (length m) in
      first_unique (above (l ++ m)) (length (l ++ m)) (length l + first_above m)
      (record {
        low = omega arith;
        high = omega (arith, length-append l m, g.high);
        before = λ k p q.
            elim (dec_lt k (length l)) [
              | yes n ↦ test_first k n ∙ none_passes (above l) (length l) h k n
              | no n ↦
                  let e : k ≡ length l + (k - length l) = omega arith in
                  rw e (test_second (k - length l) ∙ g.before (k - length l) (omega arith) (omega arith))
            ];
        passes = λ q. test_second (first_above m) ∙ g.passes (omega (arith, length-append l m));
      })
