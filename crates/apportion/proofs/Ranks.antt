-- Ranks in a strict order: of n parts exactly m have a rank below m, where m is at most n. By induction on n: a new last part leaves the rank of
-- each part before it and raises that of each after it by one. Assumes nothing.
-- In order: the order; ranks; the counting law.
use Rattle.basics.proofs.Common.{◌≡◌, ℕ, zero, suc, ◌+◌, ◌-◌, ◌<◌, ◌≤◌, Bool, true, false, eqb, ltb, sym, refl, ap, ◌∙◌, true≢false, arith, ltb-false, ltb-true, le-ltb, lt-ltb, eqb-true, dec_le}
use Rattle.basics.proofs.Common.{eqb-false, pick, count_to, sum_to, one, if_eq, if_ne, by_test, sum_same, sum_le, one_true, one_false, count_most}
use Rattle.basics.proofs.Totals.{sum_lt}
use Rattle.apportion.specs.Shares.{before, rank}

module _ (r : ℕ → ℕ) where
  -- ---- the order

  -- what it says that q comes before p, or does not
  before_true : (q p : ℕ) → before r q p ≡ true → (r p ≤ r q) × (r q ≤ r p → q < p)
  unfolding before
  before_true q p =
      by_test (λ (t : Bool). t ≡ true → (r p ≤ r q) × (r q ≤ r p → q < p)) _ _ _
      (λ e h. (omega (arith, eqb-true (r q) (r p) e), λ l. ltb-true q p h))
      (λ e h. (omega (arith, ltb-true (r p) (r q) h), λ l. omega (arith, ltb-true (r p) (r q) h)))

  before_false : (q p : ℕ) → before r q p ≡ false → (r q ≤ r p) × (r p ≤ r q → p ≤ q)
  unfolding before
  before_false q p =
      by_test (λ (t : Bool). t ≡ false → (r q ≤ r p) × (r p ≤ r q → p ≤ q)) _ _ _
      (λ e h. (omega (arith, eqb-true (r q) (r p) e), λ l. ltb-false q p h))
      (λ e h. (omega (arith, ltb-false (r p) (r q) h), λ l. absurd (eqb-false (r q) (r p) e (omega (arith, ltb-false (r p) (r q) h)))))

  -- where it does: the larger remainder, and of equal ones the lower number
  pub before_larger : (q p : ℕ) → r p < r q → before r q p ≡ true
  unfolding before
  before_larger q p h =
      let n : r q ≡ r p → ⊥ = λ e. omega arith in
      if_ne _ n ∙ lt-ltb (r p) (r q) h

  pub before_lower : (q p : ℕ) → r q ≡ r p → q < p → before r q p ≡ true
  unfolding before
  before_lower q p e h = if_eq _ e ∙ lt-ltb q p h

  -- it is strict: no part comes before itself, of two one comes before the other, and what comes before one that comes before p comes before p
  before_self : (p : ℕ) → before r p p ≡ false
  unfolding before
  before_self p = if_eq _ {a = r p} refl ∙ le-ltb p p (omega arith)

  is_before : (t : Bool) → (t ≡ false → ⊥) → t ≡ true
  is_before true n = refl
  is_before false n = absurd (n refl)

  before_other : (q p : ℕ) → (q ≡ p → ⊥) → before r q p ≡ false → before r p q ≡ true
  before_other q p n e =
      is_before _
      (λ h.
      let a = before_false q p e in
      let b = before_false p q h in
      let c = a.1 b.0 in
      let d = b.1 a.0 in
      n (omega arith))

  before_through : (o q p : ℕ) → before r o q ≡ true → before r q p ≡ true → before r o p ≡ true
  before_through o q p e f =
      is_before _
      (λ h.
      let a = before_true o q e in
      let b = before_true q p f in
      let c = before_false o p h in
      let x = a.1 (omega arith) in
      let y = b.1 (omega arith) in
      let z = c.1 (omega arith) in
      let w : ⊥ = omega arith in w)

  before_not : (q p : ℕ) → before r q p ≡ true → before r p q ≡ false
  before_not q p e = go (before r p q) refl
    where
      go : (t : Bool) → before r p q ≡ t → t ≡ false
      go true f = absurd (true≢false (sym (before_through q p q e f) ∙ before_self q))
      go false f = refl

  -- ---- ranks

  -- what comes before q comes before p, where q does
  only_more : (q p : ℕ) → before r q p ≡ true → (k : ℕ) → one (before r k q) ≤ one (before r k p)
  only_more q p e k = go (before r k q) refl
    where
      go : (t : Bool) → before r k q ≡ t → one (before r k q) ≤ one (before r k p)
      go true f = omega (arith, one_true f, one_true (before_through k q p f e))
      go false f = omega (arith, one_false f)

  rank_le : (n q p : ℕ) → before r q p ≡ true → rank r n q ≤ rank r n p
  unfolding rank
  rank_le n q p e = sum_le _ _ n (λ k l h. only_more q p e k)

  -- a part that comes before another has the smaller rank
  pub rank_lt : (n q p : ℕ) → 1 ≤ q → q ≤ n → before r q p ≡ true → rank r n q < rank r n p
  unfolding rank
  rank_lt n q p l h e = sum_lt _ _ n q l h (omega (arith, one_false (before_self q), one_true e)) (only_more q p e)

  rank_most : (n p : ℕ) → rank r n p ≤ n
  unfolding rank
  rank_most n p = count_most _ n

  -- a part more: the ranks of those that it comes before rise by one
  more : (n p : ℕ) → rank r (suc n) p ≡ rank r n p + one (before r (suc n) p)
  unfolding rank sum_to
  more n p = refl

  more_self : (n : ℕ) → rank r (suc n) (suc n) ≡ rank r n (suc n)
  more_self n = omega (arith, more n (suc n), one_false (before_self (suc n)))

  -- and these are those whose rank was not below its own
  record Placed (n p : ℕ) : Type 0 where
    low : rank r n p < rank r n (suc n) → rank r (suc n) p ≡ rank r n p
    high : rank r n (suc n) ≤ rank r n p → rank r (suc n) p ≡ rank r n p + 1

  placed : (n p : ℕ) → 1 ≤ p → p ≤ n → Placed n p
  placed n p l h = go (before r p (suc n)) refl
    where
      go : (t : Bool) → before r p (suc n) ≡ t → Placed n p
      go true e =
          let a = rank_lt n p (suc n) l h e in
          record { low = λ k. omega (arith, more n p, one_false (before_not p (suc n) e)); high = λ k. absurd (let y : ⊥ = omega arith in y) }
      go false e =
          let f = before_other p (suc n) (λ z. let y : ⊥ = omega arith in y) e in
          let a = rank_le n (suc n) p f in
          record { low = λ k. absurd (let y : ⊥ = omega arith in y); high = λ k. omega (arith, more n p, one_true f) }

  -- ---- the counting law

  -- a part more whose rank is not below m leaves every test against m as it was; one whose rank is makes it a test against m − 1
  module _ (n m p : ℕ) (at : Placed n p) where
    test_kept : m ≤ rank r n (suc n) → ltb (rank r (suc n) p) m ≡ ltb (rank r n p) m
    test_kept a =
        elim (dec_le (rank r n (suc n)) (rank r n p)) [
          | yes h ↦ le-ltb _ m (omega (arith, at.high h)) ∙ sym (le-ltb (rank r n p) m (omega arith))
          | no h ↦ ap (λ (x : ℕ). ltb x m) (at.low (omega arith))
        ]

    test_moved : rank r n (suc n) < m → ltb (rank r (suc n) p) m ≡ ltb (rank r n p) (m - 1)
    test_moved a =
        elim (dec_le m (rank r (suc n) p)) [
          | yes h ↦ le-ltb _ m h ∙ sym (le-ltb (rank r n p) (m - 1) (omega (arith, less h)))
          | no h ↦ lt-ltb _ m (omega arith) ∙ sym (lt-ltb (rank r n p) (m - 1) (omega (arith, below (omega arith))))
        ]
      where
        less : m ≤ rank r (suc n) p → m - 1 ≤ rank r n p
        less h = elim (dec_le (rank r n (suc n)) (rank r n p)) [ yes k ↦ omega (arith, at.high k) | no k ↦ omega (arith, at.low (omega arith)) ]

        below : rank r (suc n) p < m → rank r n p < m - 1
        below h = elim (dec_le (rank r n (suc n)) (rank r n p)) [ yes k ↦ omega (arith, at.high k) | no k ↦ omega arith ]

  pub ranked : (n m : ℕ) → m ≤ n → count_to (λ p. ltb (rank r n p) m) n ≡ m
  unfolding sum_to
  ranked zero m h = omega arith
  ranked (suc n) m h =
      elim (dec_le m (rank r n (suc n))) [
        | yes a ↦
            let e : count_to (λ p. ltb (rank r (suc n) p) m) n ≡ count_to (λ p. ltb (rank r n p) m) n
            = sum_same _ _ n (λ p l k. ap one (test_kept n m p (placed n p l k) a)) in
            let f : one (ltb (rank r (suc n) (suc n)) m) ≡ 0 = one_false (le-ltb _ m (omega (arith, more_self n))) in
            omega (arith, ranked n m (omega (arith, rank_most n (suc n))))
        | no a ↦
            let e : count_to (λ p. ltb (rank r (suc n) p) m) n ≡ count_to (λ p. ltb (rank r n p) (m - 1)) n
            = sum_same _ _ n (λ p l k. ap one (test_moved n m p (placed n p l k) (omega arith))) in
            let f : one (ltb (rank r (suc n) (suc n)) m) ≡ 1 = one_true (lt-ltb _ m (omega (arith, more_self n))) in
            omega (arith, ranked n (m - 1) (omega arith))
      ]

-- ranks go by the remainders of the n parts alone
pub rank_alike : (r s : ℕ → ℕ) (n p : ℕ) → 1 ≤ p → p ≤ n → ((q : ℕ) → 1 ≤ q → q ≤ n → r q ≡ s q) → rank r n p ≡ rank s n p
unfolding rank before
rank_alike r s n p l h e = sum_same _ _ n (λ q a b i. one (pick (eqb (e q a b i) (e p l h i)) (ltb q p) (ltb (e p l h i) (e q a b i))))
