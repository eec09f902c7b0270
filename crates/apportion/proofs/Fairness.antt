-- The shares total K, and each is within a cent of what it would be unrounded: as many cents are left over as the remainders together are times
-- the sum of the margins, so at most one for each part that has a remainder, and the parts without one come last. Assumes nothing.
-- In order: what is rounded down, and what remains; at most as many cents are left over as parts have a remainder; the cents; the shares.
use Rattle.basics.proofs.Common.{◌≡◌, ℕ, zero, suc, ◌+◌, ◌*◌, ◌/◌, ◌%◌, ◌<◌, ◌≤◌, true, ltb, ap, ◌∙◌, mod-lt, mul-le-mul_left, div-add-mod', arith, le-ltb, lt-ltb, dec_le, le_of_mul-le-mul_left}
use Rattle.basics.proofs.Common.{list_to, count_to, one, sum_same, sum_le, one_true, one_false, one_most, count_most}
use native.Mathlib.Nat.{mul-zero}
use Rattle.basics.proofs.Totals.{one_falls, sum_add, sum_times}
use Rattle.basics.proofs.Ascents.{list_at}
use Rattle.sizes.specs.Sizes.{parts}
use Rattle.apportion.specs.Shares.{value_of_part, total, base, remainder, left_over, before, rank, cent, share, shares}
use Rattle.apportion.specs.Fair.{Fair}
use Rattle.apportion.proofs.Ranks.{before_larger, before_lower, rank_lt, ranked}

-- the number that a list of a function's values has for a part is the function's
pub of_part : (f : ℕ → ℕ) (n p : ℕ) → 1 ≤ p → p ≤ n → value_of_part (list_to f n) p ≡ f p
of_part f n zero l h = absurd (omega arith)
of_part f n (suc i) l h = list_at f n i (omega arith)

module _ (k : ℕ) (m : ℕ → ℕ) (some : 0 < total m) where
  -- ---- what is rounded down, and what remains

  divided : (p : ℕ) → total m * base k m p + remainder k m p ≡ k * m p
  unfolding base remainder
  divided p = omega (arith, div-add-mod' (k * m p) (total m))

  small : (p : ℕ) → remainder k m p < total m
  unfolding remainder
  small p = mod-lt (k * m p) some

  all_divided : total m * total (base k m) + total (remainder k m) ≡ k * total m
  all_divided =
      omega (
        arith,
        sum_times k m parts,
        sum_times (total m) (base k m) parts,
        sum_add (λ p. total m * base k m p) (remainder k m) parts,
        sum_same _ _ parts (λ p l h. divided p),
      )

  -- what is rounded down is together at most K; the rest is what is left over
  pub base_most : total (base k m) ≤ k
  base_most = le_of_mul-le-mul_left {k = total m} (omega (arith, all_divided)) some

  left_is : total (base k m) + left_over k m ≡ k
  unfolding left_over
  left_is = omega (arith, base_most)

  left_times : total m * left_over k m ≡ total (remainder k m)
  left_times = omega (arith, all_divided, ap (λ (x : ℕ). total m * x) left_is)

  -- ---- at most as many cents are left over as parts have a remainder

  unfoldable remaining : ℕ
  remaining = count_to (λ p. ltb 0 (remainder k m p)) parts

  within_one : (p : ℕ) → remainder k m p ≤ total m * one (ltb 0 (remainder k m p))
  within_one p =
      elim (dec_le 1 (remainder k m p)) [
        | yes h ↦ let e : one (ltb 0 (remainder k m p)) ≡ 1 = one_true (lt-ltb 0 _ h) in rw e (omega (arith, small p))
        | no h ↦ omega arith
      ]

  left_most : left_over k m ≤ remaining
  unfolding remaining
  left_most =
      le_of_mul-le-mul_left {k = total m}
      (omega (arith, left_times, sum_le _ _ parts (λ p l h. within_one p), sum_times (total m) (λ p. one (ltb 0 (remainder k m p))) parts))
      some

  left_parts : left_over k m ≤ parts
  unfolding remaining
  left_parts = omega (arith, left_most, count_most (λ p. ltb 0 (remainder k m p)) parts)

  -- ---- the cents

  -- a part without a remainder has all those with one before it, and gets none
  after_remaining : (p : ℕ) → remainder k m p ≡ 0 → remaining ≤ rank (remainder k m) parts p
  unfolding remaining rank
  after_remaining p z = sum_le _ _ parts (λ q l h. counted q)
    where
      comes : (q : ℕ) → 1 ≤ remainder k m q → before (remainder k m) q p ≡ true
      comes q h = before_larger (remainder k m) q p (omega arith)

      counted : (q : ℕ) → one (ltb 0 (remainder k m q)) ≤ one (before (remainder k m) q p)
      counted q =
          elim (dec_le 1 (remainder k m q)) [
            | yes h ↦ omega (arith, one_true (comes q h), one_most (ltb 0 (remainder k m q)))
            | no h ↦ omega (arith, one_false (le-ltb 0 (remainder k m q) (omega arith)))
          ]

  no_cent : (p : ℕ) → remainder k m p ≡ 0 → cent k m p ≡ 0
  unfolding cent
  no_cent p z = one_false (le-ltb _ (left_over k m) (omega (arith, left_most, after_remaining p z)))

  cent_most : (p : ℕ) → cent k m p ≤ 1
  unfolding cent
  cent_most p = one_most _

  -- as many are given as are left over
  all_cents : total (cent k m) ≡ left_over k m
  unfolding cent
  all_cents = ranked (remainder k m) parts (left_over k m) left_parts

  -- ---- the shares

  shares_whole : total (share k m) ≡ k
  unfolding share
  shares_whole = omega (arith, sum_add (base k m) (cent k m) parts, all_cents, left_is)

  share_above : (p : ℕ) → share k m p * total m < k * m p + total m
  unfolding share
  share_above p =
      elim (dec_le 1 (remainder k m p)) [
        | yes h ↦ omega (arith, divided p, mul-le-mul_left (total m) (cent_most p))
        | no h ↦ let e : cent k m p ≡ 0 = no_cent p (omega arith) in rw e (omega (arith, divided p, some))
      ]

  share_below : (p : ℕ) → k * m p < share k m p * total m + total m
  unfolding share
  share_below p = omega (arith, divided p, small p)

  share_nothing : (p : ℕ) → m p ≡ 0 → share k m p ≡ 0
  unfolding share
  share_nothing p e =
      let z : total m * base k m p + remainder k m p ≡ 0 = divided p ∙ ap (λ (x : ℕ). k * x) e ∙ mul-zero k in
      let b : base k m p ≤ 0 = le_of_mul-le-mul_left {k = total m} (omega arith) some in
      omega (arith, no_cent p (omega arith))

  -- equal margins: the lower number comes before the other
  share_alike : (p q : ℕ) → 1 ≤ p → p < q → q ≤ parts → m p ≡ m q → (share k m q ≤ share k m p) × (share k m p ≤ share k m q + 1)
  unfolding share base remainder cent
  share_alike p q o l h e =
      let b : base k m p ≡ base k m q = ap (λ (x : ℕ). k * x / total m) e in
      let r : remainder k m p ≡ remainder k m q = ap (λ (x : ℕ). k * x % total m) e in
      let f = before_lower (remainder k m) p q r l in
      let g = one_falls (left_over k m) (rank_lt (remainder k m) parts p q o (omega arith) f) in
      (omega arith, omega (arith, one_most (ltb (rank (remainder k m) parts p) (left_over k m))))

  given : (p : ℕ) → 1 ≤ p → p ≤ parts → value_of_part (shares k m) p ≡ share k m p
  unfolding shares
  given p l h = of_part (share k m) parts p l h

  pub fair : Fair k m (value_of_part (shares k m))
  fair =
      record {
        whole = sum_same _ _ parts given ∙ shares_whole;
        above = λ p l h. rw (given p l h) (omega (arith, share_above p));
        below = λ p l h. rw (given p l h) (omega (arith, share_below p));
        nothing = λ p l h e. given p l h ∙ share_nothing p e;
        alike = λ p q o l h e. let i : p ≤ parts = omega arith in let j : 1 ≤ q = omega arith in rw (given p o i, given q j h) (share_alike p q o l h e);
      }
