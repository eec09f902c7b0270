-- What the laws in ℤ beside the papers' definitions rest on: a difference of two naturals, cut at 0 or not, its order, less another, and its
-- product with a natural. Assumes nothing.
use Rattle.basics.proofs.Common.{◌≡◌, ℕ, ◌+◌, ◌-◌, ◌*◌, ◌<◌, ◌≤◌, ◌↔◌, ℤ, pos, ◌+ℤ◌, ◌*ℤ◌, neg_ℤ, sym, ap, ◌∙◌, arith, sub_ℕ, *ℤ_comm, le_z_yes, pick, if_true}
use Rattle.std.specs.Prelude.{◌-ℤ◌, ◌≤ℤ◌, ◌<ℤ◌}
use Rattle.std.proofs.Math.Dec.{leb-zero}
use Rattle.std.specs.Int.Signed.{lt_z, lt_z_yes, lt_z_no, clash_ℤ}
use Rattle.integer.specs.Larger.{larger}
use Rattle.integer.proofs.Integer.{above, below, as_diff, neg_as_diff, diff_eq, diff_add, diff_mul}

-- a difference that is cut at 0 is the larger of 0 and the difference
pub cut_larger : (a b : ℕ) → pos (a - b) ≡ larger (pos 0) (sub_ℕ a b)
unfolding pick
cut_larger a b = grind (arith, sub_ℕ, above, if_true, leb-zero, below)

-- a natural less another
pub less_diff : (n m : ℕ) → pos n -ℤ pos m ≡ sub_ℕ n m
less_diff n m = (λ k. as_diff n k +ℤ neg_as_diff m k) ∙ diff_add n 0 0 m ∙ diff_eq (n + 0) (0 + m) n m (omega arith)

-- so a natural that makes m up to n is their difference
pub exact_difference : (n m d : ℕ) → d + m ≡ n → pos d ≡ pos n -ℤ pos m
exact_difference n m d e = as_diff d ∙ diff_eq d 0 n m (omega arith) ∙ sym (less_diff n m)

-- differences are ordered as the crossed sums are
pub diff_le : (a b c d : ℕ) → (a + d ≤ c + b) ↔ (sub_ℕ a b ≤ℤ sub_ℕ c d)
diff_le a b c d = grind (arith, sub_ℕ, above, le_z_yes, below)

-- the same, strictly
pub diff_lt : (a b c d : ℕ) → (a + d < c + b) ↔ (sub_ℕ a b <ℤ sub_ℕ c d)
diff_lt a b c d = grind (arith, lt_z, sub_ℕ, lt_z_yes, diff_le, lt_z_no, clash_ℤ)

-- a difference less another
pub diff_less : (a b c d : ℕ) → sub_ℕ a b -ℤ sub_ℕ c d ≡ sub_ℕ (a + d) (b + c)
diff_less a b c d = grind (arith, sub_ℕ, diff_add, neg_ℤ, above, neg_as_diff, diff_eq, below, as_diff)

-- a difference times a natural
pub diff_times : (a b n : ℕ) → sub_ℕ a b *ℤ pos n ≡ sub_ℕ (a * n) (b * n)
diff_times a b n = ap (λ (z : ℤ). sub_ℕ a b *ℤ z) (as_diff n) ∙ diff_mul a b n 0 ∙ diff_eq (a * n + b * 0) (a * 0 + b * n) (a * n) (b * n) (omega arith)

-- and a natural times a difference
pub times_diff : (n a b : ℕ) → pos n *ℤ sub_ℕ a b ≡ sub_ℕ (n * a) (n * b)
times_diff n a b = *ℤ_comm (pos n) (sub_ℕ a b) ∙ diff_times a b n ∙ diff_eq (a * n) (b * n) (n * a) (n * b) (omega arith)
