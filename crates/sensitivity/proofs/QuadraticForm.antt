-- The sum over all i, j of factor × x(i) × x(j) along one risk: its root moves by at most as much as the risk's value. The form of x + s × e, with e one
-- at that risk alone, has beside the two forms s times a pairing of x and e; the form at 8x less that pairing times e is never negative, which bounds
-- the pairing by four roots of the form. Assumes nothing.
-- In order: one risk alone; sums of two lines; the pairing with one risk is small; the root moves by at most as much as one value.
use Rattle.basics.proofs.Common.{◌≡◌, ℕ, ◌+◌, ◌*◌, ◌/◌, ◌%◌, ◌<◌, ◌≤◌, eqb, ℤ, pos, ◌+ℤ◌, ◌*ℤ◌, neg_ℤ, nat_abs, sym, refl, ap, ◌∙◌, mul-le-mul_right, mul-le-mul_left, arith, +ℤ_idr, +ℤ_assoc, zero-*ℤ}
use Rattle.basics.proofs.Common.{*ℤ-zero, pick, le_of_squares, values_same, values}
use lib.IntN.{+ℤ_invl, +ℤ_invr}
use Rattle.integer.specs.Sum.{sum}
use Rattle.integer.proofs.Integer.{ring, +ℤ-*ℤ, abs_neg, abs_add, abs_mul}
use Rattle.integer.proofs.Sums.{sum_same, sum_add, sum_times}
use Rattle.sizes.specs.Sizes.{risks, products}
use Rattle.guideline.specs.Factors.{factors, factor}
use Rattle.guideline.proofs.Squares.{product, square_pos}
use Rattle.guideline.proofs.Table.{form, form_natural}

-- ---- one risk alone

-- 1 at i, 0 at any other
unfoldable pub unit : ℕ → ℕ → ℕ
unit i j = pick (eqb i j) 1 0

-- what is tested of the table: each risk goes with itself by 4 quarters
tested : values (λ i. form (λ j. pos (unit i j))) risks ≡ values (λ i. pos 4) risks
unfolding values form sum unit pick factor factors
tested = refl

unit_form : (i : ℕ) → i < risks → form (λ j. pos (unit i j)) ≡ pos 4
unit_form = values_same (λ i. form (λ j. pos (unit i j))) (λ i. pos 4) risks tested

-- ---- sums of two lines

form_same : (x z : ℕ → ℤ) → ((j : ℕ) → j < risks → x j ≡ z j) → form x ≡ form z
unfolding form
form_same x z e = sum_same products _ _ (λ k h. λ i. factor k *ℤ (e (k / risks) (omega arith) i *ℤ e (k % risks) (omega arith) i))

-- what the form of a sum has beside the forms
unfoldable pairing : (ℕ → ℤ) → (ℕ → ℤ) → ℤ
pairing x z = sum products (λ k. factor k *ℤ (x (k / risks) *ℤ z (k % risks) +ℤ z (k / risks) *ℤ x (k % risks)))

form_sum :
    (c s : ℤ) (x z : ℕ → ℤ) →
    form (λ j. c *ℤ x j +ℤ s *ℤ z j) ≡ c *ℤ c *ℤ form x +ℤ (c *ℤ s *ℤ pairing x z +ℤ s *ℤ s *ℤ form z)
unfolding form pairing
form_sum c s x z =
    sum_same products _ _ (λ k h. step (factor k) (x (k / risks)) (z (k / risks)) (x (k % risks)) (z (k % risks)))
    ∙ sum_add (λ k. c *ℤ c *ℤ f k) (λ k. c *ℤ s *ℤ g k +ℤ s *ℤ s *ℤ h k) products
    ∙ (λ i. sum_times f (c *ℤ c) products i +ℤ sum_add (λ k. c *ℤ s *ℤ g k) (λ k. s *ℤ s *ℤ h k) products i)
    ∙ (λ i. c *ℤ c *ℤ sum products f +ℤ (sum_times g (c *ℤ s) products i +ℤ sum_times h (s *ℤ s) products i))
  where
    f : ℕ → ℤ
    f k = factor k *ℤ product x k

    g : ℕ → ℤ
    g k = factor k *ℤ (x (k / risks) *ℤ z (k % risks) +ℤ z (k / risks) *ℤ x (k % risks))

    h : ℕ → ℤ
    h k = factor k *ℤ product z k

    step :
        (f a p b q : ℤ) →
        f *ℤ ((c *ℤ a +ℤ s *ℤ p) *ℤ (c *ℤ b +ℤ s *ℤ q))
        ≡ c *ℤ c *ℤ (f *ℤ (a *ℤ b)) +ℤ (c *ℤ s *ℤ (f *ℤ (a *ℤ q +ℤ p *ℤ b)) +ℤ s *ℤ s *ℤ (f *ℤ (p *ℤ q)))
    step f a p b q = simp ring

-- ---- the pairing with one risk is small

-- where n is −z
cancelled :
    (q e f z n : ℤ) → n +ℤ z ≡ pos 0 → n *ℤ n ≡ z *ℤ z →
    q +ℤ (e *ℤ n *ℤ z +ℤ n *ℤ n *ℤ f) +ℤ e *ℤ (z *ℤ z) ≡ q +ℤ z *ℤ z *ℤ f
cancelled q e f z n g h =
    sorted q e f z n (n *ℤ n)
    ∙ (λ i. q +ℤ h i *ℤ f +ℤ e *ℤ z *ℤ g i)
    ∙ ap (λ (x : ℤ). q +ℤ z *ℤ z *ℤ f +ℤ x) (*ℤ-zero (e *ℤ z))
    ∙ +ℤ_idr (q +ℤ z *ℤ z *ℤ f)
  where
    sorted : (q e f z n m : ℤ) → q +ℤ (e *ℤ n *ℤ z +ℤ m *ℤ f) +ℤ e *ℤ (z *ℤ z) ≡ q +ℤ m *ℤ f +ℤ e *ℤ z *ℤ (n +ℤ z)
    sorted q e f z n m = simp ring

module _ (x e : ℕ → ℤ) (one : form e ≡ pos 4) (q : ℕ) (x-is : form x ≡ pos q) where
  z : ℤ
  z = pairing x e

  -- the form at c × x + s × e
  form_at : (c s : ℤ) → form (λ j. c *ℤ x j +ℤ s *ℤ e j) ≡ c *ℤ c *ℤ pos q +ℤ (c *ℤ s *ℤ z +ℤ s *ℤ s *ℤ pos 4)
  unfolding z
  form_at c s = form_sum c s x e ∙ (λ i. c *ℤ c *ℤ x-is i +ℤ (c *ℤ s *ℤ z +ℤ s *ℤ s *ℤ one i))

  -- at 8x − z × e it is never negative
  pairing_small : nat_abs z * nat_abs z ≤ 16 * q
  pairing_small =
      let l = nat_abs z in
      let n = neg_ℤ z in
      let r = form_natural (λ j. pos 8 *ℤ x j +ℤ n *ℤ e j) in
      let same : n *ℤ n ≡ z *ℤ z = square_pos n ∙ (λ i. pos (abs_neg z i * abs_neg z i)) ∙ sym (square_pos z) in
      let both : pos r.0 +ℤ pos 8 *ℤ (z *ℤ z) ≡ pos (64 * q) +ℤ z *ℤ z *ℤ pos 4 =
      ap (λ (y : ℤ). y +ℤ pos 8 *ℤ (z *ℤ z)) (sym r.1 ∙ form_at (pos 8) n) ∙ cancelled (pos (64 * q)) (pos 8) (pos 4) z n (+ℤ_invl z) same in
      let on : pos (r.0 + 8 * (l * l)) ≡ pos (64 * q + l * l * 4) =
      sym (ap (λ (y : ℤ). pos r.0 +ℤ pos 8 *ℤ y) (square_pos z)) ∙ both ∙ ap (λ (y : ℤ). pos (64 * q) +ℤ y *ℤ pos 4) (square_pos z) in
      let h : r.0 + 8 * (l * l) ≡ 64 * q + l * l * 4 = cc in
      omega arith

  -- the form at x + s × e
  form_near : (s : ℤ) (p : ℕ) → form (λ j. pos 1 *ℤ x j +ℤ s *ℤ e j) ≡ pos p → p ≤ q + (nat_abs s * nat_abs z + nat_abs s * nat_abs s * 4)
  form_near s p p-is =
      let m : ℤ = pos 1 *ℤ s *ℤ z in
      let o : ℤ = s *ℤ s *ℤ pos 4 in
      let size : p ≡ nat_abs (pos (1 * 1 * q) +ℤ (m +ℤ o)) = ap nat_abs (sym p-is ∙ form_at (pos 1) s) in
      let first : nat_abs m ≡ 1 * nat_abs s * nat_abs z = abs_mul (pos 1 *ℤ s) z ∙ ap (λ (n : ℕ). n * nat_abs z) (abs_mul (pos 1) s) in
      let second : nat_abs o ≡ nat_abs s * nat_abs s * 4 = abs_mul (s *ℤ s) (pos 4) ∙ ap (λ (n : ℕ). n * 4) (abs_mul s s) in
      omega (arith, abs_add (pos (1 * 1 * q)) (m +ℤ o), abs_add m o)

-- ---- the root moves by at most as much as one value

root_apart :
    (q p l s n m : ℕ) → l * l ≤ 16 * q → p ≤ q + (s * l + s * s * 4) → q * (m * m) ≤ 4 * (n * n) →
    p * (m * m) ≤ 4 * ((n + s * m) * (n + s * m))
root_apart q p l s n m small near h =
    let g : l * m ≤ 8 * n = le_of_squares (l * m) (8 * n) (omega (arith, mul-le-mul_right (m * m) small)) in
    omega (arith, mul-le-mul_right (m * m) near, mul-le-mul_left (s * m) g)

-- n/m at or above half the root of q, the form at x: then n/m + s at or above half that of p, the form at z
module _ (x z : ℕ → ℤ) (i : ℕ) (within : i < risks) (s : ℤ) (z-is : (j : ℕ) → j < risks → z j ≡ pos 1 *ℤ x j +ℤ s *ℤ pos (unit i j)) where
  along :
      (q p : ℕ) → form x ≡ pos q → form z ≡ pos p → (n m : ℕ) → q * (m * m) ≤ 4 * (n * n) →
      p * (m * m) ≤ 4 * ((n + nat_abs s * m) * (n + nat_abs s * m))
  along q p e f n m h =
      let u : ℕ → ℤ = λ j. pos (unit i j) in
      let one = unit_form i within in
      root_apart q p _ (nat_abs s) n m (pairing_small x u one q e) (form_near x u one q e s p (sym (form_same z _ z-is) ∙ f)) h

-- of naturals: s more at i, and back
module _ (f g : ℕ → ℕ) (i : ℕ) (within : i < risks) (s : ℕ) (g-is : (j : ℕ) → j < risks → g j ≡ f j + s * unit i j) where
  more_is : (j : ℕ) → j < risks → pos (g j) ≡ pos 1 *ℤ pos (f j) +ℤ pos s *ℤ pos (unit i j)
  more_is j h = ap pos (omega (arith, g-is j h))

  less_is : (j : ℕ) → j < risks → pos (f j) ≡ pos 1 *ℤ pos (g j) +ℤ neg_ℤ (pos s) *ℤ pos (unit i j)
  less_is j h = grind (arith, +ℤ-*ℤ, +ℤ_invr, zero-*ℤ, +ℤ_assoc, +ℤ_idr)

  module _ (q p : ℕ) (f-form : form (λ j. pos (f j)) ≡ pos q) (g-form : form (λ j. pos (g j)) ≡ pos p) (n m : ℕ) where
    pub root_rises : q * (m * m) ≤ 4 * (n * n) → p * (m * m) ≤ 4 * ((n + s * m) * (n + s * m))
    root_rises = along (λ j. pos (f j)) (λ j. pos (g j)) i within (pos s) more_is q p f-form g-form n m

    pub root_falls : p * (m * m) ≤ 4 * (n * n) → q * (m * m) ≤ 4 * ((n + s * m) * (n + s * m))
    root_falls h = rw (abs_neg (pos s)) at (along (λ j. pos (g j)) (λ j. pos (f j)) i within (neg_ℤ (pos s)) less_is p q g-form f-form n m h)
