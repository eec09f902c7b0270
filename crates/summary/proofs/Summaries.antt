-- A summary with a sheet more is that of all sheets; mean and remainder give the total back; what a summary says of its sheets. Assumes nothing.
use Rattle.basics.proofs.Common.{◌≡◌, ℕ, suc, ◌+◌, ◌*◌, ◌/◌, ◌%◌, ◌≤◌, List, [], ◌∷◌, ◌++◌, length, sym, refl, ap, ◌∙◌, mod-lt, div-add-mod', arith, length-append, Each, if_eq, if_ne}
use Rattle.summary.specs.Summaries.{leading, first_extreme, is_smaller, is_larger, total, summary_of, mean, remainder, SummaryIs}
use Rattle.summary.specs.declared.Accepted.{Accepted}
use Rattle.summary.specs.declared.Summary.{Summary}
use Rattle.summary.proofs.Extremes.{first_extreme_more, smallest_first, largest_first}

pub total_more : (xs : List Accepted) (a : Accepted) → total (xs ++ (a ∷ [])) ≡ total xs + a.buffer
unfolding total
total_more [] a = omega arith
total_more (b ∷ xs) a = omega (arith, total_more xs a)

-- the first sheet alone
pub summary_first : (s : Summary) (a : Accepted) → s.count ≡ 0 → (xs : List Accepted) → s ≡ summary_of xs
    → ◌≡◌ {A = Summary} (record { count = 1; smallest = a; largest = a; total = a.buffer }) (summary_of (xs ++ (a ∷ [])))
unfolding summary_of first_extreme total
summary_first s a z [] e = let t : a.buffer ≡ a.buffer + 0 = omega arith in (λ i. record { count = 1; smallest = a; largest = a; total = t i })
summary_first s a z (b ∷ xs) e = let n : s.count ≡ suc (length xs) = ap (λ (u : Summary). u.count) e in absurd (omega arith)

-- one more after others
pub summary_more : (s : Summary) (a : Accepted) → (s.count ≡ 0 → ⊥) → (xs : List Accepted) → s ≡ summary_of xs → {x y : Accepted}
    → x ≡ leading is_smaller s.smallest a → y ≡ leading is_larger s.largest a
    → ◌≡◌ {A = Summary} (record { count = s.count + 1; smallest = x; largest = y; total = s.total + a.buffer }) (summary_of (xs ++ (a ∷ [])))
unfolding summary_of
summary_more s a z [] e p q = absurd (z (ap (λ (u : Summary). u.count) e))
summary_more s a z (b ∷ xs) e p q =
    let n : s.count + 1 ≡ suc (length (xs ++ (a ∷ []))) = rw (length-append xs (a ∷ [])) (omega (arith, ap (λ (u : Summary). u.count) e)) in
    let x = p ∙ ap (λ (u : Summary). leading is_smaller u.smallest a) e ∙ sym (first_extreme_more is_smaller b xs a) in
    let y = q ∙ ap (λ (u : Summary). leading is_larger u.largest a) e ∙ sym (first_extreme_more is_larger b xs a) in
    let t = ap (λ (u : Summary). u.total + a.buffer) e ∙ sym (total_more (b ∷ xs) a) in
    (λ i. record { count = n i; smallest = x i; largest = y i; total = t i })

-- a total of buffers that are each at most m
pub total_most : (m : ℕ) (xs : List Accepted) → Each (λ a. a.buffer ≤ m) xs → total xs ≤ m * length xs
unfolding total
total_most m [] h = omega arith
total_most m (a ∷ xs) h = omega (arith, h.0, total_most m xs h.1)

-- ---- items 7 and 8

pub mean_some : (s : Summary) → (s.count ≡ 0 → ⊥) → (s.total / s.count ≡ mean s) × (s.total % s.count ≡ remainder s)
unfolding mean remainder
mean_some s z = (sym (if_ne _ z), sym (if_ne _ z))

pub mean_none : (s : Summary) → s.count ≡ 0 → (0 ≡ mean s) × (0 ≡ remainder s)
unfolding mean remainder
mean_none s z = (sym (if_eq _ z), sym (if_eq _ z))

-- mean × count + remainder is the total, also where there is none
pub mean_total : (xs : List Accepted) → let s = summary_of xs in mean s * s.count + remainder s ≡ total xs
unfolding summary_of total
mean_total [] = let m = mean_none (summary_of []) refl in omega (arith, m.0, m.1)
mean_total (a ∷ xs) =
    let s = summary_of (a ∷ xs) in
    let m = mean_some s (λ e. omega arith) in
    (λ i. sym m.0 i * s.count + sym m.1 i) ∙ div-add-mod' s.total s.count

-- ---- all that is said of one sheet or more

pub summary_is : (a : Accepted) (xs : List Accepted) → SummaryIs (a ∷ xs) (summary_of (a ∷ xs))
unfolding summary_of
summary_is a xs =
    let s = summary_of (a ∷ xs) in
    record {
      count_is = refl;
      smallest_is = smallest_first a xs;
      largest_is = largest_first a xs;
      total_is = refl;
      mean_is = mean_total (a ∷ xs);
      remainder_below = rw (← (mean_some s (λ e. omega arith)).1) (mod-lt s.total (omega arith));
    }
