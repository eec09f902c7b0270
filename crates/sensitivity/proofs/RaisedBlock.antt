-- The figures of a block with one IR raised by t cents against those of the block: U rises by t, LT stays, one y rises by 2t, so that neither the
-- largest y nor the root of Q moves by more than 2t. The raised block is accepted just where the raised IR is within the limit. Assumes nothing.
-- In order: seven risks; what the exact I and D rest on, and how far it is apart; the raised block: IR(k + 1), at position 2k.
use Rattle.basics.proofs.Common.{◌≡◌, ℕ, suc, ◌+◌, ◌-◌, ◌*◌, ◌<◌, ◌≤◌, true, false, eqb, List, length, get_or, sym, refl, ap, ◌∙◌, mul-le-mul_left, arith, get_or-set_other, get_or-set_same, eqb-true}
use Rattle.basics.proofs.Common.{eqb-false, pick, by_test, values_same, values}
use Rattle.amount.specs.Amount.{limit}
use Rattle.sizes.specs.Sizes.{risks}
use Rattle.guideline.specs.Block.{ir, lt, PC, A, U, LT, y, ys, largest_of, largest, a, EachRisk, AcceptedBlock}
use Rattle.guideline.proofs.Figures.{q, formed}
use Rattle.sensitivity.specs.Movement.{raised}
use Rattle.sensitivity.proofs.QuadraticForm.{unit, root_rises, root_falls}

-- ---- seven risks

-- what holds of each holds at every number
pub each_at : (P : ℕ → Type 0) → EachRisk P → (j : ℕ) → j < risks → P (suc j)
each_at P e j h = grind arith

-- and what holds at every number holds of each
each_of : (P : ℕ → Type 0) → ((j : ℕ) → j < risks → P (suc j)) → EachRisk P
each_of P h = (h 0 (omega arith), h 1 (omega arith), h 2 (omega arith), h 3 (omega arith), h 4 (omega arith), h 5 (omega arith), h 6 (omega arith))

ys_at : (b : List ℕ) (j : ℕ) → j < risks → get_or (ys b) j 0 ≡ y b (suc j)
unfolding ys values
ys_at b = values_same (λ j. get_or (ys b) j 0) (λ j. y b (suc j)) risks refl

module _ (b : List ℕ) where
  y_within : EachRisk (λ j. y b j ≤ largest b)
  unfolding largest largest_of ys
  y_within = omega arith

  largest_least : (n : ℕ) → EachRisk (λ j. y b j ≤ n) → largest b ≤ n
  unfolding largest largest_of ys
  largest_least n h = omega arith

-- no y is more than s above: nor is the largest
largest_moves : (b c : List ℕ) (s : ℕ) → ((j : ℕ) → j < risks → y c (suc j) ≤ y b (suc j) + s) → largest c ≤ largest b + s
largest_moves b c s h = grind (arith, largest_least, each_of, each_at, y_within)

-- one of the seven is 1, each other 0
unit_sum : (k : ℕ) → k < risks → unit k 0 + unit k 1 + unit k 2 + unit k 3 + unit k 4 + unit k 5 + unit k 6 ≡ 1
unfolding values unit pick
unit_sum = values_same (λ k. unit k 0 + unit k 1 + unit k 2 + unit k 3 + unit k 4 + unit k 5 + unit k 6) (λ k. 1) risks refl

unit_most : (k j : ℕ) → unit k j ≤ 1
unfolding unit
unit_most k j = by_test (λ u. u ≤ 1) (eqb k j) 1 0 (λ e. omega arith) (λ e. omega arith)

-- ---- what the exact I and D rest on, and how far it is apart

-- no figure of c is more than s above that of b; of the root: where n/m is at least b's, n/m + s is at least c's
pub record Near (b c : List ℕ) (s : ℕ) : Type 0 where
  pub pc_same : PC c ≡ PC b
  pub a_same : a c ≡ a b
  pub largest_near : largest c ≤ largest b + s
  pub root_near : (n m : ℕ) → q b * (m * m) ≤ 4 * (n * n) → q c * (m * m) ≤ 4 * ((n + s * m) * (n + s * m))

-- ---- the raised block: IR(k + 1), at position 2k

module _ (b : List ℕ) (k t : ℕ) (within : k < risks) (long : 2 * k < length b) where
  abbrev c : List ℕ
  c = raised b (suc k) t

  kept : (p : ℕ) → (p ≡ 2 * k → ⊥) → get_or c p 0 ≡ get_or b p 0
  unfolding raised
  kept p h = get_or-set_other b _ p _ 0 (λ e. h (omega arith))

  ir_is : (j : ℕ) → ir c (suc j) ≡ ir b (suc j) + t * unit k j
  unfolding unit raised
  ir_is j = by_test (λ u. ir c (suc j) ≡ ir b (suc j) + t * u) (eqb k j) 1 0 same other
    where
      same : eqb k j ≡ true → ir c (suc j) ≡ ir b (suc j) + t * 1
      same e = let q : k ≡ j = eqb-true k j e in rw (sym q) (get_or-set_same b (2 * suc k - 2) _ 0 (omega arith) ∙ omega arith)

      other : eqb k j ≡ false → ir c (suc j) ≡ ir b (suc j) + t * 0
      other e = let n = eqb-false k j e in kept (2 * suc j - 2) (λ q. n (omega arith)) ∙ omega arith

  lt_is : (j : ℕ) → lt c (suc j) ≡ lt b (suc j)
  lt_is j = kept (2 * suc j - 1) (λ q. omega arith)

  pc_is : PC c ≡ PC b
  pc_is = kept 14 (λ q. omega arith)

  a_is : a c ≡ a b
  unfolding a A
  a_is = λ i. 2 * (kept 15 (λ q. omega arith) i + kept 16 (λ q. omega arith) i)

  pub u_moves : U c ≡ U b + t
  unfolding U A
  u_moves =
      omega (
        arith,
        ir_is 0,
        ir_is 1,
        ir_is 2,
        ir_is 3,
        ir_is 4,
        ir_is 5,
        ir_is 6,
        ap (λ (n : ℕ). t * n) (unit_sum k within),
        pc_is,
        kept 15 (λ q. omega arith),
        kept 16 (λ q. omega arith),
      )

  pub lt_stays : LT c ≡ LT b
  unfolding LT
  lt_stays = λ i. lt_is 0 i + lt_is 1 i + lt_is 2 i + lt_is 3 i + lt_is 4 i + lt_is 5 i + lt_is 6 i

  -- it is accepted where the raised IR is within the limit, and only there
  pub accepted_within : AcceptedBlock c → ir b (suc k) + t ≤ limit
  unfolding raised
  accepted_within w = rw (get_or-set_same b (2 * suc k - 2) (ir b (suc k) + t) 0 (omega arith)) at (each_at (λ j. ir c j ≤ limit) w.ir_fits k within)

  fits : AcceptedBlock b → ir b (suc k) + t ≤ limit → (j : ℕ) → j < risks → ir c (suc j) ≤ limit
  unfolding unit
  fits v top j h =
      by_test (λ u. ir c (suc j) ≡ ir b (suc j) + t * u → ir c (suc j) ≤ limit) (eqb k j) 1 0
      (λ e p. omega (arith, ap (λ (n : ℕ). ir b (suc n)) (eqb-true k j e)))
      (λ e p. omega (arith, each_at (λ j. ir b j ≤ limit) v.ir_fits j h))
      (ir_is j)

  pub within_accepted : AcceptedBlock b → ir b (suc k) + t ≤ limit → AcceptedBlock c
  within_accepted v top = grind (arith, each_of, fits, lt_is, pc_is, kept, ir_is, each_at)

  module _ (v : AcceptedBlock b) where
    y_is : (j : ℕ) → j < risks → y c (suc j) ≡ y b (suc j) + 2 * t * unit k j
    unfolding y
    y_is j h = omega (arith, ir_is j, lt_is j, each_at (λ j. lt b j ≤ ir b j) v.lt_within j h)

    ys_is : (j : ℕ) → j < risks → get_or (ys c) j 0 ≡ get_or (ys b) j 0 + 2 * t * unit k j
    ys_is j h = omega (arith, ys_at c j h, ys_at b j h, y_is j h)

    -- no figure rises or falls by more than 2t
    pub none_rises : Near b (raised b (suc k) t) (2 * t)
    none_rises =
        record {
          pc_same = pc_is;
          a_same = a_is;
          largest_near = largest_moves b c (2 * t) (λ j h. omega (arith, y_is j h, mul-le-mul_left (2 * t) (unit_most k j)));
          root_near = root_rises _ (λ j. get_or (ys c) j 0) k within (2 * t) ys_is (q b) (q c) (formed b) (formed c);
        }

    pub none_falls : Near (raised b (suc k) t) b (2 * t)
    none_falls =
        record {
          pc_same = sym pc_is;
          a_same = sym a_is;
          largest_near = largest_moves c b (2 * t) (λ j h. omega (arith, y_is j h));
          root_near = root_falls (λ j. get_or (ys b) j 0) _ k within (2 * t) ys_is (q b) (q c) (formed b) (formed c);
        }
