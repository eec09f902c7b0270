-- Tables of seven rows and seven columns that are sums of squares of lines, and what the sum over all i, j of entry × x(i) × x(j)
-- comes to for such a table. Assumes nothing.
use Rattle.basics.proofs.Common.{◌≡◌, ℕ, ◌+◌, ◌*◌, ◌/◌, ◌%◌, ◌<◌, List, [], ◌∷◌, get_or, ℤ, pos, ◌+ℤ◌, ◌*ℤ◌, nat_abs, ap, ◌∙◌, arith, zero-*ℤ, *ℤ_comm}
use Rattle.integer.specs.Sum.{sum}
use Rattle.integer.proofs.Integer.{ring}
use Rattle.integer.proofs.Sums.{sum_same, sum_add, sum_times, sum_rows}
use Rattle.sizes.specs.Sizes.{risks, products}

-- the k-th product of two values, row by row
abbrev pub product : (ℕ → ℤ) → ℕ → ℤ
product x k = x (k / risks) *ℤ x (k % risks)

-- all products of two of the first seven values, row by row
pub sum_square : (f : ℕ → ℤ) → sum products (product f) ≡ sum risks f *ℤ sum risks f
sum_square f =
    sum_rows (λ k. f (k / risks) *ℤ f (k % risks)) risks risks
    ∙ sum_same risks _ (λ i. sum risks f *ℤ f i)
    (λ i h. sum_same risks _ (λ j. f i *ℤ f j) (at i) ∙ sum_times f (f i) risks ∙ *ℤ_comm (f i) (sum risks f))
    ∙ sum_times f (sum risks f) risks
  where
    at : (i j : ℕ) → j < risks → f ((i * risks + j) / risks) *ℤ f ((i * risks + j) % risks) ≡ f i *ℤ f j
    at i j h =
        let d : (i * risks + j) / risks ≡ i = omega arith in
        let m : (i * risks + j) % risks ≡ j = omega arith in
        rw (d, m)

pub square_pos : (z : ℤ) → z *ℤ z ≡ pos (nat_abs z * nat_abs z)
square_pos z = grind arith

-- weight × the square of the line's value
pub record Square : Type 0 where
  pub weight : ℕ
  pub line : List ℤ

-- an entry of the line
abbrev on : Square → ℕ → ℤ
on s i = get_or s.line i (pos 0)

-- the k-th entry of the table that the squares make, row by row
unfoldable pub made : List Square → ℕ → ℤ
made [] k = pos 0
made (s ∷ ss) k = pos s.weight *ℤ product (on s) k +ℤ made ss k

-- the line's value
abbrev valued : Square → (ℕ → ℤ) → ℤ
valued s x = sum risks (λ i. on s i *ℤ x i)

-- what the squares come to, whatever the signs: a natural
pub sum_of_squares : List Square → (ℕ → ℤ) → ℕ
sum_of_squares [] x = 0
sum_of_squares (s ∷ ss) x = s.weight * (nat_abs (valued s x) * nat_abs (valued s x)) + sum_of_squares ss x

pub made_sum : (ss : List Square) (x : ℕ → ℤ) → sum products (λ k. made ss k *ℤ product x k) ≡ pos (sum_of_squares ss x)
unfolding made sum_of_squares
made_sum [] x = sum_times (product x) (pos 0) products ∙ zero-*ℤ (sum products (product x))
made_sum (s ∷ ss) x =
    sum_same products _ _ (λ k h. step (pos s.weight) (on s (k / risks)) (on s (k % risks)) (made ss k) (x (k / risks)) (x (k % risks)))
    ∙ sum_add (λ k. pos s.weight *ℤ product (λ i. on s i *ℤ x i) k) (λ k. made ss k *ℤ product x k) products
    ∙ (λ i. first i +ℤ made_sum ss x i)
  where
    step : (w l m r a b : ℤ) → (w *ℤ (l *ℤ m) +ℤ r) *ℤ (a *ℤ b) ≡ w *ℤ (l *ℤ a *ℤ (m *ℤ b)) +ℤ r *ℤ (a *ℤ b)
    step w l m r a b = simp ring

    first : sum products (λ k. pos s.weight *ℤ product (λ i. on s i *ℤ x i) k) ≡ pos (s.weight * (nat_abs (valued s x) * nat_abs (valued s x)))
    first =
        sum_times (product (λ i. on s i *ℤ x i)) (pos s.weight) products
        ∙ ap (λ (z : ℤ). pos s.weight *ℤ z) (sum_square (λ i. on s i *ℤ x i) ∙ square_pos (valued s x))
