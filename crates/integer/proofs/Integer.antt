-- The integers as differences of two naturals: an equation of ℤ becomes one of ℕ, which omega proves. Then the laws of the
-- ring that lib.IntN leaves out, the ruleset `ring` for simp, and the sizes of sums and products. Assumes nothing.
-- In order: differences; their sum and product, by whether each is a natural or the negative of one; the parts of an integer above and below 0; the
-- ring's laws; the size of a negative, of a sum and of a product.
use Rattle.basics.proofs.Common.{◌≡◌, ℕ, suc, ◌+◌, ◌-◌, ◌*◌, ◌<◌, ◌≤◌, Bool, cond, ℤ, pos, negsuc, ◌+ℤ◌, ◌*ℤ◌, neg_ℤ, nat_abs, sym, ap, ◌∙◌, subst, mul_assoc, mul_comm, lt_of_not-le, arith, le-ltb}
use Rattle.basics.proofs.Common.{lt-ltb, dec_le, le_dest, sub_ℕ, +ℤ_assoc, *ℤ_comm}
use native.Mathlib.Nat.{le_trans, mul-add, add-mul, mul_left_comm, add_assoc, add_comm, add_left_comm}
use lib.IntN.{+ℤ_comm}

-- a difference below 0, and one that is not
pub below : {a b : ℕ} → a < b → sub_ℕ a b ≡ negsuc (b - suc a)
below {a} {b} h = ap (λ (t : Bool). cond t (negsuc (b - suc a)) (pos (a - b))) (lt-ltb a b h)

pub above : {a b : ℕ} → b ≤ a → sub_ℕ a b ≡ pos (a - b)
above {a} {b} h = ap (λ (t : Bool). cond t (negsuc (b - suc a)) (pos (a - b))) (le-ltb a b h)

-- two differences are equal where the crossed sums are
pub diff_eq : (a b c d : ℕ) → a + d ≡ c + b → sub_ℕ a b ≡ sub_ℕ c d
diff_eq a b c d e = grind (arith, above, below, lt_of_not-le)

pub as_diff : (n : ℕ) → pos n ≡ sub_ℕ n 0
as_diff n = ap pos (omega arith) ∙ sym (above {a = n} {b = 0} (omega arith))

pub neg_as_diff : (n : ℕ) → neg_ℤ (pos n) ≡ sub_ℕ 0 n
neg_as_diff n = grind (arith, below)

-- a difference is a natural or the negative of one
data View : ℕ → ℕ → Type 0 where
  natural : (b x : ℕ) → View (b + x) b
  negative : (a x : ℕ) → View a (a + suc x)

view : (a b : ℕ) → View a b
view a b =
    elim (dec_le b a) [
      | yes h ↦ subst (λ (n : ℕ). View n b) (le_dest h).1 (natural b (le_dest h).0)
      | no n ↦ let l = le_dest (lt_of_not-le n) in subst (View a) (omega (arith, l.1)) (negative a l.0)
    ]

pub natural_diff : (b x : ℕ) → sub_ℕ (b + x) b ≡ pos x
natural_diff b x = diff_eq (b + x) b x 0 (omega arith) ∙ sym (as_diff x)

negative_diff : (a x : ℕ) → sub_ℕ a (a + suc x) ≡ negsuc x
negative_diff a x = diff_eq a (a + suc x) 0 (suc x) (omega arith) ∙ sym (neg_as_diff (suc x))

-- the sum of two differences
add_views : {a b c d : ℕ} → View a b → View c d → sub_ℕ a b +ℤ sub_ℕ c d ≡ sub_ℕ (a + c) (b + d)
add_views h h' = grind (arith, natural_diff, as_diff, diff_eq, negative_diff, neg_as_diff)

pub diff_add : (a b c d : ℕ) → sub_ℕ a b +ℤ sub_ℕ c d ≡ sub_ℕ (a + c) (b + d)
diff_add a b c d = add_views (view a b) (view c d)

-- the product of two differences
mul_views : {a b c d : ℕ} → View a b → View c d → sub_ℕ a b *ℤ sub_ℕ c d ≡ sub_ℕ (a * c + b * d) (a * d + b * c)
mul_views (natural b x) (natural d y) =
    rw (natural_diff b x, natural_diff d y)
    (as_diff (x * y) ∙ diff_eq (x * y) 0 ((b + x) * (d + y) + b * d) ((b + x) * d + b * (d + y)) (omega arith))
mul_views (natural b x) (negative c y) =
    rw (natural_diff b x, negative_diff c y)
    (neg_as_diff (x * suc y) ∙ diff_eq 0 (x * suc y) ((b + x) * c + b * (c + suc y)) ((b + x) * (c + suc y) + b * c) (omega arith))
mul_views (negative a x) (natural d y) =
    rw (negative_diff a x, natural_diff d y)
    (neg_as_diff (suc x * y) ∙ diff_eq 0 (suc x * y) (a * (d + y) + (a + suc x) * d) (a * d + (a + suc x) * (d + y)) (omega arith))
mul_views (negative a x) (negative c y) =
    let n = suc x * suc y in
    rw (negative_diff a x, negative_diff c y) (as_diff n ∙ diff_eq n 0 (a * c + (a + suc x) * (c + suc y)) (a * (c + suc y) + (a + suc x) * c) (omega arith))

pub diff_mul : (a b c d : ℕ) → sub_ℕ a b *ℤ sub_ℕ c d ≡ sub_ℕ (a * c + b * d) (a * d + b * c)
diff_mul a b c d = mul_views (view a b) (view c d)

-- the parts of an integer above and below 0
abbrev positive_part : ℤ → ℕ
positive_part (pos n) = n
positive_part (negsuc n) = 0

abbrev negative_part : ℤ → ℕ
negative_part (pos n) = 0
negative_part (negsuc n) = suc n

parts : (z : ℤ) → z ≡ sub_ℕ (positive_part z) (negative_part z)
parts z = grind (arith, as_diff, neg_as_diff)

-- for simp: sums and products of naturals are multiplied out and sorted
ruleset naturals = (mul-add, add-mul, mul_assoc, mul_comm, mul_left_comm, add_assoc, add_comm, add_left_comm)

pub *ℤ-+ℤ : (a b c : ℤ) → a *ℤ (b +ℤ c) ≡ a *ℤ b +ℤ a *ℤ c
*ℤ-+ℤ a b c = rw (parts a, parts b, parts c) (simp (diff_add, diff_mul, naturals))

pub *ℤ_assoc : (a b c : ℤ) → a *ℤ b *ℤ c ≡ a *ℤ (b *ℤ c)
*ℤ_assoc a b c = rw (parts a, parts b, parts c) (simp (diff_mul, naturals))

pub +ℤ-*ℤ : (a b c : ℤ) → (a +ℤ b) *ℤ c ≡ a *ℤ c +ℤ b *ℤ c
+ℤ-*ℤ a b c = *ℤ_comm (a +ℤ b) c ∙ *ℤ-+ℤ c a b ∙ (λ i. *ℤ_comm c a i +ℤ *ℤ_comm c b i)

pub *ℤ_left_comm : (a b c : ℤ) → a *ℤ (b *ℤ c) ≡ b *ℤ (a *ℤ c)
*ℤ_left_comm a b c = sym (*ℤ_assoc a b c) ∙ ap (λ (z : ℤ). z *ℤ c) (*ℤ_comm a b) ∙ *ℤ_assoc b a c

pub +ℤ_left_comm : (a b c : ℤ) → a +ℤ (b +ℤ c) ≡ b +ℤ (a +ℤ c)
+ℤ_left_comm a b c = sym (+ℤ_assoc a b c) ∙ ap (λ (z : ℤ). z +ℤ c) (+ℤ_comm a b) ∙ +ℤ_assoc b a c

-- for simp: sums and products are multiplied out and sorted
pub ruleset ring = (*ℤ-+ℤ, +ℤ-*ℤ, *ℤ_assoc, *ℤ_comm, *ℤ_left_comm, +ℤ_assoc, +ℤ_comm, +ℤ_left_comm)

-- ---- the size of a negative, of a sum and of a product

pub abs_neg : (z : ℤ) → nat_abs (neg_ℤ z) ≡ nat_abs z
abs_neg z = grind arith

abs_diff : (a b : ℕ) → nat_abs (sub_ℕ a b) ≤ a + b
abs_diff a b = elim (dec_le b a) [ yes h ↦ rw (above h) (omega arith) | no n ↦ rw (below (lt_of_not-le n)) (omega arith) ]

pub abs_add : (a b : ℤ) → nat_abs (a +ℤ b) ≤ nat_abs a + nat_abs b
abs_add a b = grind (arith, abs_diff, le_trans)

pub abs_mul : (a b : ℤ) → nat_abs (a *ℤ b) ≡ nat_abs a * nat_abs b
abs_mul a b = grind (arith, abs_neg)
