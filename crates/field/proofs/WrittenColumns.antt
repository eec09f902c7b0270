-- A field written from its last column on, two columns at a time. Assumes nothing.
use Rattle.basics.proofs.Common.{◌≡◌, ℕ, zero, suc, ◌+◌, ◌-◌, ◌/◌, ◌%◌, ◌<◌, ◌≤◌, List, ◌∷◌, ◌++◌, length, drop, set, sym, refl, ap, ◌∙◌, add-one, arith, length-append, length-set, drop_of_length-le}
use Rattle.basics.proofs.Common.{drop-cons, get_or-set_same, drop-set-lt, append_snoc}
use lib.Seq.{lt-length-set}
use Rattle.field.specs.Field.{digit_or_space, leading_digits, decimal}

-- the list from the place of a store on
drop_set : (l : List ℕ) (j v : ℕ) → j < length l → drop j (set l j v) ≡ v ∷ drop (suc j) l
drop_set l j v h =
    let k : j < length (set l j v) = lt-length-set l j v h in
    let o : j < suc j = omega arith in
    rw (drop-cons (set l j v) j 0, get_or-set_same l j v 0, drop-set-lt (suc j) l j v)

-- of n columns for v those from i on are written, and w is left for the i before them
pub record Written (n v : ℕ) (out : List ℕ) (i w : ℕ) : Type 0 where
  pub within : i ≤ length out
  pub long : length out ≡ n
  pub text : leading_digits i w ++ drop i out ≡ decimal n v

last_digit : (n : ℕ) (l : List ℕ) (v : ℕ) → length l ≡ suc n
    → leading_digits n (v / 10) ++ drop n (set l n (48 + v % 10)) ≡ decimal (suc n) v
unfolding decimal
last_digit n l v e =
    let h : n < length l = omega arith in
    let o : length l ≤ suc n = omega arith in
    rw (drop_set l n (48 + v % 10), drop_of_length-le l o)

pub last_written : (l : List ℕ) (v : ℕ) → 0 < length l
    → Written (length (set l (length l - 1) (48 + v % 10))) v (set l (length l - 1) (48 + v % 10)) (length l - 1) (v / 10)
last_written l v h =
    let e : length l ≡ suc (length l - 1) = omega arith in
    let k = length-set l (length l - 1) (48 + v % 10) in
    record {
      within = omega arith;
      long = refl;
      text = last_digit (length l - 1) l v e ∙ ap (λ (n : ℕ). decimal n v) (sym (k ∙ e));
    }

next_digit : (l : List ℕ) (j w : ℕ) → j < length l
    → leading_digits j (w / 10) ++ drop j (set l j (digit_or_space w)) ≡ leading_digits (suc j) w ++ drop (suc j) l
unfolding leading_digits
next_digit l j w h = rw (drop_set l j (digit_or_space w)) (sym (append_snoc (leading_digits j (w / 10)) (digit_or_space w) (drop (suc j) l)))

next_written : {n v : ℕ} {l : List ℕ} {i w : ℕ} → Written n v l i w → 0 < i → Written n v (set l (i - 1) (digit_or_space w)) (i - 1) (w / 10)
next_written {n} {v} {l} {i} {w} W p =
    let e : suc (i - 1) ≡ i = omega arith in
    let k = length-set l (i - 1) (digit_or_space w) in
    record {
      within = omega arith;
      long = k ∙ W.long;
      text = next_digit l (i - 1) w (omega arith) ∙ ap (λ (j : ℕ). leading_digits j w ++ drop j l) e ∙ W.text;
    }

pub all_written : {n v : ℕ} {l : List ℕ} {i w : ℕ} → Written n v l i w → i ≤ 0 → l ≡ decimal n v
unfolding leading_digits
all_written {i = i} W h = let e : i ≡ 0 = omega arith in rw e at W.text

-- two columns, the later one first
pub two_written : {n v : ℕ} {l : List ℕ} {i w : ℕ} → Written n v l i w → 2 ≤ i
    → Written n v (set (set l (i - 2 + 1) (digit_or_space w)) (i - 2) (digit_or_space (w / 10))) (i - 2) (w / 100)
two_written {n} {v} {l} {i} {w} W h =
    let j : i - 1 ≡ i - 2 + 1 = omega arith in
    let k : i - 2 + 1 - 1 ≡ i - 2 = omega arith in
    let q : w / 10 / 10 ≡ w / 100 = omega arith in
    rw (k, q) at (next_written (rw j at (next_written W (omega arith))) (omega arith))

-- where one column is left, it is the first
pub one_written : {n v : ℕ} {l : List ℕ} {i w : ℕ} → Written n v l i w → i ≡ 1 → set l 0 (digit_or_space w) ≡ decimal n v
one_written W h = all_written (next_written (rw h at W) (omega arith)) (omega arith)

pub length_leading : (w v : ℕ) → length (leading_digits w v) ≡ w
unfolding leading_digits
length_leading zero v = refl
length_leading (suc w) v = rw (length-append, length_leading w (v / 10), add-one)

pub length_decimal : (w v : ℕ) → length (decimal w v) ≡ w
unfolding decimal
length_decimal zero v = refl
length_decimal (suc w) v = rw (length-append, length_leading w (v / 10), add-one)
