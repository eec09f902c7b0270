-- A block with a part's amounts zero, in document 01's letters: a position is the part's own or another's. Such a block is accepted where the block
-- is: no amount is larger, and a risk's LT is zero where its IR is made so. Assumes nothing.
-- In order: a zero in a list; the block without part p, from 1 on; it is accepted where the block is.
use Rattle.basics.proofs.Common.{◌≡◌, ℕ, zero, suc, ◌-◌, ◌*◌, ◌<◌, ◌≤◌, Bool, true, false, eqb, ltb, List, [], ◌∷◌, get_or, set, sym, refl, ◌∙◌, arith, get_or-set_other, ltb-false, ltb-true}
use Rattle.basics.proofs.Common.{ℕ_discrete, pick, if_eq, if_ne, by_test}
use Rattle.amount.specs.Amount.{limit}
use Rattle.sizes.specs.Sizes.{risks}
use Rattle.guideline.specs.Block.{ir, lt, PC, credit, market, EachRisk, AcceptedBlock}
use Rattle.shares.specs.Margins.{pc_part, credit_part, market_part, position_of, without, WithoutPart}

-- ---- a zero in a list

zero_there : (l : List ℕ) (k : ℕ) → get_or (set l k 0) k 0 ≡ 0
zero_there [] k = refl
zero_there (x ∷ l) zero = refl
zero_there (x ∷ l) (suc k) = zero_there l k

zero_at : (l : List ℕ) (k j : ℕ) → j ≡ k → get_or (set l k 0) j 0 ≡ 0
zero_at l k j e = rw e (zero_there l k)

-- two of them: a place that is one of the two, and a place that is neither
either : (l : List ℕ) (k m j : ℕ) → ((j ≡ m → ⊥) → j ≡ k) → get_or (set (set l k 0) m 0) j 0 ≡ 0
either l k m j h =
    elim (ℕ_discrete j m) [
      | yes e ↦ zero_at (set l k 0) m j e
      | no n ↦ get_or-set_other (set l k 0) m j 0 0 n ∙ zero_at l k j (h n)
    ]

elsewhere : (l : List ℕ) (k m j : ℕ) → (j ≡ k → ⊥) → (j ≡ m → ⊥) → get_or (set (set l k 0) m 0) j 0 ≡ get_or l j 0
elsewhere l k m j n o = get_or-set_other (set l k 0) m j 0 0 o ∙ get_or-set_other l k j 0 0 n

-- ---- the block without part p, from 1 on

module _ (b : List ℕ) (p : ℕ) (first : 1 ≤ p) where
  abbrev less : List ℕ
  less = without b p

  -- the amount at place j is 0 or as it was, by the part q that it belongs to
  abbrev Is : ℕ → ℕ → List ℕ → Type 0
  Is q j l = get_or l j 0 ≡ pick (eqb p q) 0 (get_or b j 0)

  -- a risk's two amounts: o is 2 for IR and 1 for LT
  of_risk : (i o : ℕ) → 1 ≤ i → i ≤ risks → 1 ≤ o → o ≤ 2 → Is i (2 * i - o) less
  unfolding without
  of_risk i o l h m n =
      let j = 2 * i - o in
      by_test (Is i j) (ltb risks p) _ _
      (λ t.
      let k : risks < p = ltb-true risks p t in
      let w : p ≡ i → ⊥ = λ e. omega arith in
      get_or-set_other b (position_of p) j 0 0 (λ e. omega arith) ∙ sym (if_ne _ w))
      (λ t.
      elim (ℕ_discrete p i) [
        | yes e ↦ either b (2 * p - 2) (2 * p - 1) j (λ z. omega arith) ∙ sym (if_eq _ e)
        | no e ↦ elsewhere b (2 * p - 2) (2 * p - 1) j (λ z. e (omega arith)) (λ z. e (omega arith)) ∙ sym (if_ne _ e)
      ])

  -- PC, credit and market
  of_other : (q : ℕ) → risks < q → Is q (position_of q) less
  unfolding without
  of_other q h =
      by_test (Is q (position_of q)) (ltb risks p) _ _
      (λ t.
      let l : risks < p = ltb-true risks p t in
      elim (ℕ_discrete p q) [
        | yes e ↦ zero_at b (position_of p) (position_of q) (omega arith) ∙ sym (if_eq _ e)
        | no e ↦ get_or-set_other b (position_of p) (position_of q) 0 0 (λ z. e (omega arith)) ∙ sym (if_ne _ e)
      ])
      (λ t.
      let k : p ≤ risks = ltb-false risks p t in
      let w : p ≡ q → ⊥ = λ e. omega arith in
      elsewhere b (2 * p - 2) (2 * p - 1) (position_of q) (λ e. omega arith) (λ e. omega arith) ∙ sym (if_ne _ w))

  pub without_part : WithoutPart b p
  without_part =
      record {
        ir_is = λ i l h. of_risk i 2 l h (omega arith) (omega arith);
        lt_is = λ i l h. of_risk i 1 l h (omega arith) (omega arith);
        pc_is = of_other pc_part (omega arith);
        credit_is = of_other credit_part (omega arith);
        market_is = of_other market_part (omega arith);
      }

  -- ---- it is accepted where the block is

  -- 0 or an amount is within what the amount is within, and beside 0 or a larger amount it stays within it
  cut : (t : Bool) (x y : ℕ) → x ≤ y → (pick t 0 x ≤ y) × (pick t 0 x ≤ pick t 0 y)
  unfolding pick
  cut true x y h = (omega arith, omega arith)
  cut false x y h = (h, h)

  fits : (i : ℕ) → 1 ≤ i → i ≤ risks → ir b i ≤ limit → ir less i ≤ limit
  fits i l h f = rw (without_part.ir_is i l h) (cut (eqb p i) (ir b i) limit f).0

  pair : (i : ℕ) → 1 ≤ i → i ≤ risks → lt b i ≤ ir b i → lt less i ≤ ir less i
  pair i l h f = rw (without_part.lt_is i l h, without_part.ir_is i l h) (cut (eqb p i) (lt b i) (ir b i) f).1

  each : (P Q : ℕ → Type 0) → ((i : ℕ) → 1 ≤ i → i ≤ risks → P i → Q i) → EachRisk P → EachRisk Q
  each P Q f e = (
    f 1 (omega arith) (omega arith) e.0,
    f 2 (omega arith) (omega arith) e.1,
    f 3 (omega arith) (omega arith) e.2,
    f 4 (omega arith) (omega arith) e.3,
    f 5 (omega arith) (omega arith) e.4,
    f 6 (omega arith) (omega arith) e.5,
    f 7 (omega arith) (omega arith) e.6,
  )

  pub accepted_without : AcceptedBlock b → AcceptedBlock less
  accepted_without a =
      let w = without_part in
      record {
        ir_fits = each (λ i. ir b i ≤ limit) (λ i. ir less i ≤ limit) fits a.ir_fits;
        lt_within = each (λ i. lt b i ≤ ir b i) (λ i. lt less i ≤ ir less i) pair a.lt_within;
        lt_seven = omega (arith, w.lt_is 7 (omega arith) (omega arith), (cut (eqb p 7) (lt b 7) 0 (omega (arith, a.lt_seven))).0);
        pc_fits = rw w.pc_is (cut (eqb p pc_part) (PC b) limit a.pc_fits).0;
        credit_fits = rw w.credit_is (cut (eqb p credit_part) (credit b) limit a.credit_fits).0;
        market_fits = rw w.market_is (cut (eqb p market_part) (market b) limit a.market_fits).0;
      }
