-- A root found one binary digit at a time: what is held after each step (`After`), and the root rounded up. Assumes nothing.
-- In order: one binary digit more; a radicand without a step; what is held before the first step, and from each to the next; the root rounded up
-- after the last.
use Rattle.basics.proofs.Common.{◌≡◌, ℕ, suc, ◌+◌, ◌-◌, ◌*◌, ◌/◌, ◌%◌, ◌^◌, ◌<◌, ◌≤◌, Bool, true, false, ltb, leb, sym, refl, ap, ◌∙◌, mod-lt, mod-eq_of_lt, mul_comm, div-le_self, arith, ltb-false}
use Rattle.basics.proofs.Common.{ltb-true, pow-succ', div-eq_of_lt, least, pick, lt_of_squares}
use native.Mathlib.Nat.{div-div-eq-div-mul, div-one}
use Rattle.basics.proofs.LeastOf.{root_eq}
use Rattle.root.specs.Steps.{steps, leading, After}
use Rattle.root.proofs.Lengths.{has_digits, few_steps}
use Rattle.root.proofs.Windows.{pos4, start_fits, digits_brought_down}
use Rattle.root.proofs.LowerRoots.{floor_root, floor_is}

-- one binary digit t more, and u left: the root is 2r + t, and t times the next odd number is taken off what is left with the digits brought down
pub record Digit (r s d t u : ℕ) : Type 0 where
  pub bit : t ≤ 1
  pub square : (2 * r + t) * (2 * r + t) + u ≡ 4 * (r * r + s) + d
  pub small : u ≤ 2 * (2 * r + t)

pub digit : (r s d t u : ℕ) → s ≤ 2 * r → d < 4 → t ≡ pick (ltb (4 * r) (4 * s + d)) 1 0
    → u ≡ pick (ltb (4 * r) (4 * s + d)) (4 * s + d - 4 * r - 1) (4 * s + d) → Digit r s d t u
unfolding pick
digit r s d t u h k e f = by_value (ltb (4 * r) (4 * s + d)) refl e f
  where
    by_value : (b : Bool) → ltb (4 * r) (4 * s + d) ≡ b → t ≡ pick b 1 0 → u ≡ pick b (4 * s + d - 4 * r - 1) (4 * s + d) → Digit r s d t u
    by_value true b e f =
        let l : 4 * r < 4 * s + d = ltb-true _ _ b in
        rw (e, f) (record { bit = omega arith; square = omega arith; small = omega arith })
    by_value false b e f =
        let l : 4 * s + d ≤ 4 * r = ltb-false _ _ b in
        rw (e, f) (record { bit = omega arith; square = omega arith; small = omega arith })

-- a radicand without a step is 0, and so is its root
pub root_of_none : (n : ℕ) → steps n ≡ 0 → 0 ≡ least (λ x. leb n (x * x))
root_of_none n e =
    let k : n < 4 ^ 0 = rw e at (has_digits n).no_more in
    sym (root_eq n 0 (omega arith) (omega arith) (λ p. omega arith))

-- ---- between two steps

module _ (n : ℕ) (fits : n < 2 ^ 124) where
  -- no more than 62 steps
  pub few : steps n ≤ 62
  few = few_steps n 62 (omega arith)

  leading_small : (j : ℕ) → leading n j < 2 ^ 124
  leading_small j = omega (arith, div-le_self n (4 ^ (steps n - j)))

  module _ (j w r s : ℕ) (a : After n j w r s) where
    -- the digits that are not yet brought down leave the window's two upper ones free
    pub window_small : w < 2 ^ 126
    window_small = grind (arith, few, start_fits, mod-lt, pos4)

    -- what is left of the leading digits is at most twice the root
    pub small : s ≤ 2 * r
    small = grind (arith, floor_root, leading_small)

  -- before the first step nothing is brought down
  pub at_start : (w : ℕ) → w ≡ n * 4 ^ (63 - steps n) → After n 0 w 0 0
  at_start w e =
      let whole : steps n - 0 ≡ steps n = omega arith in
      let k : n < 4 ^ (steps n - 0) = rw whole (has_digits n).no_more in
      let z : n / 4 ^ (steps n - 0) ≡ 0 = div-eq_of_lt k in
      record {
        held = floor_is (leading n 0) 0 (leading_small 0) (omega arith) (omega (arith, z));
        remains = omega (arith, z);
        to_come = rw (mod-eq_of_lt k, whole) e;
      }

  -- the digits above the last m, from those above the last m + 1
  one_more : (m : ℕ) → n / 4 ^ m ≡ 4 * (n / 4 ^ suc m) + n / 4 ^ m % 4
  one_more m = grind (arith, div-div-eq-div-mul, mul_comm, pow-succ')

  -- one step: q, the two digits that leave the window, are brought down, and one binary digit of the root is fixed
  pub step :
      (j w r s q w' r' s' : ℕ) → j < steps n → After n j w r s → w' < 2 ^ 126 → w' + q * 2 ^ 126 ≡ 4 * w →
      r' * r' + s' ≡ 4 * (r * r + s) + q → s' ≤ 2 * r' → After n (j + 1) w' r' s'
  step j w r s q w' r' s' h a fit down square small' =
      let m = steps n - (j + 1) in
      let e : steps n - j ≡ suc m = omega arith in
      let f = few in
      let d = digits_brought_down n m (63 - suc m) w q w' (omega arith) (rw e at a.to_come) fit down in
      let z : suc (63 - suc m) ≡ 63 - m = omega arith in
      let k : r' * r' + s' ≡ leading n (j + 1) = omega (arith, one_more m, rw e at a.remains, d.0) in
      record {
        held = floor_is (leading n (j + 1)) r' (leading_small (j + 1)) (omega arith) (omega arith);
        remains = k;
        to_come = rw z at d.1;
      }

  -- with a step to go, the root so far has 61 binary digits
  pub root_small : (j w r s : ℕ) → j < steps n → After n j w r s → r < 2 ^ 61
  root_small j w r s h a =
      let m = steps n - (j + 1) in
      let e : steps n - j ≡ suc m = omega arith in
      let g : n / 4 ^ suc m ≡ n / 4 / 4 ^ m = ap (λ (x : ℕ). n / x) (pow-succ' 4 m) ∙ sym (div-div-eq-div-mul n 4 (4 ^ m)) in
      let l : n / 4 / 4 ^ m ≤ n / 4 = div-le_self (n / 4) (4 ^ m) in
      lt_of_squares r (2 ^ 61) (omega (arith, rw e at a.remains))

  -- ---- the root rounded up, after the last step

  module _ (j w r s : ℕ) (ends : steps n ≤ j) (a : After n j w r s) where
    ended : n ≡ r * r + s
    ended = grind (arith, div-one)

    root_room : r < 2 ^ 62
    root_room = lt_of_squares r (2 ^ 62) (omega (arith, ended))

    pub exact_root : s ≤ 0 → r ≡ least (λ x. leb n (x * x))
    exact_root h =
        sym
        (root_eq n r (omega (arith, root_room)) (omega (arith, ended))
        (λ p.
        let e : r ≡ r - 1 + 1 = omega arith in
        omega (arith, ended, ap (λ (x : ℕ). x * x) e)))

    pub next_root : 0 < s → r + 1 ≡ least (λ x. leb n (x * x))
    next_root h =
        sym
        (root_eq n (r + 1) (omega (arith, root_room)) (omega (arith, ended, small j w r s a))
        (λ p.
        let e : r + 1 - 1 ≡ r = omega arith in
        rw e (omega (arith, ended))))
