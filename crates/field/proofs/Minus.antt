-- A minus right before a field's digits: how the place before them is found, and what then stands in the columns: spaces, the minus and the number.
-- Assumes nothing.
-- In order: the place of the minus; the difference of two numbers; the columns are as many; what then stands in the columns.
use Rattle.basics.proofs.Common.{◌≡◌, ℕ, zero, suc, ◌+◌, ◌-◌, ◌/◌, ◌%◌, ◌^◌, ◌<◌, ◌≤◌, eqb, List, [], ◌∷◌, ◌++◌, length, get_or, take, drop, set, ℤ, pos, negsuc, sym, refl, ap, ◌∙◌, add-one, arith}
use Rattle.basics.proofs.Common.{get_or-drop, drop-cons, take-suc, dec_lt, sub_ℕ, get_or-eq_default, get_or-append, append_snoc, if_eq, if_ne, by_test}
use lib.Seq.{set_split}
use Rattle.integer.proofs.Integer.{above, below}
use Rattle.field.specs.Field.{digit_or_space, leading_digits, decimal}
use Rattle.field.specs.Signed.{with_minus, signed, MinusBefore}
use Rattle.field.proofs.WrittenColumns.{length_leading, length_decimal}
use Rattle.field.proofs.Inverse.{space_decimal, digit_shown}

-- ---- the place of the minus

-- behind each of the first i columns there is a space
pub record Spaced (l : List ℕ) (i : ℕ) : Type 0 where
  pub within : i < length l
  pub minus : with_minus l ≡ take i l ++ with_minus (drop i l)

module _ (l : List ℕ) where
  pub spaced_start : 0 < length l → Spaced l 0
  spaced_start h = record { within = h; minus = refl }

  pub spaced_more : (i : ℕ) → i + 1 < length l → get_or l (i + 1) 0 ≡ 32 → Spaced l i → Spaced l (i + 1)
  unfolding with_minus
  spaced_more i h e s = rw add-one (further i (rw add-one at h) (rw add-one at e) s)
    where
      further : (i : ℕ) → suc i < length l → get_or l (suc i) 0 ≡ 32 → Spaced l i → Spaced l (suc i)
      further i h e s =
          let w = s.within in
          let next : with_minus (drop i l) ≡ get_or l i 0 ∷ with_minus (drop (suc i) l) = rw (drop-cons l i 0 w, drop-cons l (suc i) 0 h) (if_eq _ e) in
          let t = with_minus (drop (suc i) l) in
          record {
            within = h;
            minus = s.minus ∙ ap (λ (t : List ℕ). take i l ++ t) next
                ∙ sym (ap (λ (p : List ℕ). p ++ t) (take-suc l i 0 w) ∙ append_snoc (take i l) (get_or l i 0) t);
          }

  -- where no space follows, the minus stands
  pub spaced_last : (i : ℕ) → (get_or l (i + 1) 0 ≡ 32 → ⊥) → Spaced l i → (i < length l) × (set l i 45 ≡ with_minus l)
  unfolding with_minus
  spaced_last i n s =
      let k : suc i + 0 ≡ i + 1 = omega arith in
      let here : get_or (drop (suc i) l) 0 0 ≡ 32 → ⊥ = λ e. n (sym (get_or-drop (suc i) l 0 0 ∙ ap (λ (j : ℕ). get_or l j 0) k) ∙ e) in
      let last : with_minus (drop i l) ≡ 45 ∷ drop (suc i) l = rw (drop-cons l i 0 s.within) (if_ne _ here) in
      (s.within, set_split l i 45 s.within ∙ sym (s.minus ∙ ap (λ (t : List ℕ). take i l ++ t) last))

  -- nor where nothing follows
  pub spaced_end : (i : ℕ) → length l ≤ i + 1 → Spaced l i → (i < length l) × (set l i 45 ≡ with_minus l)
  spaced_end i h = spaced_last i (λ e. omega (arith, sym (get_or-eq_default l 0 h) ∙ e))

-- ---- the difference of two numbers

module _ (w : ℕ) {to from : ℕ} where
  pub risen : from ≤ to → decimal w (to - from) ≡ signed w (sub_ℕ to from)
  unfolding signed
  risen h = rw (above h)

  pub fallen : to < from → with_minus (decimal w (from - to)) ≡ signed w (sub_ℕ to from)
  unfolding signed
  fallen h = rw (below h) (ap (λ (n : ℕ). with_minus (decimal w n)) (omega arith))

-- ---- the columns are as many

length_minus : (l : List ℕ) → length (with_minus l) ≡ length l
unfolding with_minus
length_minus [] = refl
length_minus (b ∷ bs) = by_test (λ t. length t ≡ suc (length bs)) (eqb (get_or bs 0 0) 32) (b ∷ with_minus bs) (45 ∷ bs) (λ e. rw (length_minus bs)) (λ e. refl)

pub length_signed : (w : ℕ) (z : ℤ) → length (signed w z) ≡ w
unfolding signed
length_signed w (pos n) = length_decimal w n
length_signed w (negsuc n) = length_minus (decimal w (suc n)) ∙ length_decimal w (suc n)

-- ---- what then stands in the columns

-- no space stands before a number that fills its columns
leading_first : (w v : ℕ) → 10 ^ w ≤ v → get_or (leading_digits (suc w) v) 0 0 ≡ 32 → ⊥
unfolding leading_digits
leading_first zero v h e = let p : 0 < v = omega arith in omega (arith, sym (digit_shown v p) ∙ e)
leading_first (suc w) v h e =
    let l : 0 < length (leading_digits (suc w) (v / 10)) = omega (arith, length_leading (suc w) (v / 10)) in
    leading_first w (v / 10) (omega arith) (sym (get_or-append (leading_digits (suc w) (v / 10)) (digit_or_space v ∷ []) 0 0 l) ∙ e)

decimal_first : (w v : ℕ) → 10 ^ w ≤ v → get_or (decimal (suc w) v) 0 0 ≡ 32 → ⊥
unfolding decimal leading_digits
decimal_first zero v h e = omega arith
decimal_first (suc w) v h e =
    let l : 0 < length (leading_digits (suc w) (v / 10)) = omega (arith, length_leading (suc w) (v / 10)) in
    leading_first w (v / 10) (omega arith) (sym (get_or-append (leading_digits (suc w) (v / 10)) ((48 + v % 10) ∷ []) 0 0 l) ∙ e)

shown : (w n : ℕ) → 0 < n → n < 10 ^ w → MinusBefore (suc w) n (with_minus (decimal (suc w) n))
unfolding with_minus
shown zero n p h = absurd (omega arith)
shown (suc w) n p h =
    rw (space_decimal (suc w) n (omega arith) h)
    (elim (dec_lt n (10 ^ w)) [
      | yes k ↦
          let q : 0 < w = positive w n p k in
          let s = shown w n p k in
          let e : get_or (decimal (suc w) n) 0 0 ≡ 32 = rw (space_decimal w n q k) in
          record {
            spaces = suc s.spaces;
            digits = s.digits;
            columns = omega (arith, s.columns);
            filled = s.filled;
            text = if_eq _ e ∙ ap (λ (l : List ℕ). 32 ∷ l) s.text;
          }
      | no k ↦
          let f : 10 ^ w ≤ n = omega arith in
          record { spaces = 0; digits = suc w; columns = omega arith; filled = (omega arith, h); text = if_ne _ (decimal_first w n f) }
    ])
  where
    positive : (w n : ℕ) → 0 < n → n < 10 ^ w → 0 < w
    positive zero n p k = absurd (omega arith)
    positive (suc w) n p k = omega arith

pub minus_before : (w n : ℕ) → suc n < 10 ^ w → MinusBefore (suc w) (suc n) (signed (suc w) (negsuc n))
unfolding signed
minus_before w n h = shown w (suc n) (omega arith) h
