-- The correlation factors: one computed test over all of the table, and what it says of the table and of the sum over all i, j.
-- Assumes nothing.
-- In order: the test; the sum over all i, j of factor × x(i) × x(j), in quarters, for x of any sign; the definition's sum is the form of the
-- naturals.
use Rattle.basics.proofs.Common.{◌≡◌, ℕ, zero, suc, ◌+◌, ◌-◌, ◌*◌, ◌/◌, ◌%◌, ◌<◌, ◌≤◌, List, [], ◌∷◌, get_or, ℤ, pos, negsuc, ◌+ℤ◌, ◌*ℤ◌, neg_ℤ, nat_abs, sym, refl, ap, ◌∙◌, arith, w8, w64, Each}
use Rattle.basics.proofs.Common.{each_at, never, values_same, values}
use mir.Val.{SFits}
use Rattle.integer.specs.Sum.{sum}
use Rattle.integer.proofs.Integer.{ring, *ℤ-+ℤ, *ℤ_assoc, +ℤ-*ℤ, natural_diff}
use Rattle.integer.proofs.Sums.{sum_same, sum_add, sum_times}
use Rattle.sizes.specs.Sizes.{risks, products}
use Rattle.guideline.specs.Factors.{factors, factor, quarter_sum}
use Rattle.guideline.proofs.ProductOrder.{in_order}
use Rattle.guideline.proofs.Squares.{Square, made, sum_of_squares, made_sum, product, square_pos, sum_square}

-- ---- the test

-- 2520 × (twice the table less 1 in each place) is the sum of these
squares : List Square
squares =
    record { weight = 360; line = pos 7 ∷ negsuc 2 ∷ pos 3 ∷ negsuc 2 ∷ pos 1 ∷ negsuc 0 ∷ pos 3 ∷ [] }
    ∷ record { weight = 36; line = pos 0 ∷ negsuc 5 ∷ pos 20 ∷ pos 8 ∷ pos 9 ∷ negsuc 1 ∷ pos 6 ∷ [] }
    ∷ record { weight = 84; line = pos 0 ∷ pos 6 ∷ pos 0 ∷ pos 12 ∷ pos 6 ∷ negsuc 7 ∷ pos 9 ∷ [] }
    ∷ record { weight = 630; line = pos 0 ∷ pos 4 ∷ pos 0 ∷ pos 0 ∷ pos 1 ∷ negsuc 1 ∷ pos 1 ∷ [] }
    ∷ record { weight = 70; line = pos 0 ∷ pos 0 ∷ pos 0 ∷ pos 0 ∷ negsuc 0 ∷ pos 2 ∷ pos 9 ∷ [] }
    ∷ record { weight = 35; line = pos 0 ∷ pos 0 ∷ pos 0 ∷ pos 0 ∷ negsuc 10 ∷ pos 16 ∷ pos 0 ∷ [] }
    ∷ record { weight = 6405; line = pos 0 ∷ pos 0 ∷ pos 0 ∷ pos 0 ∷ pos 1 ∷ pos 0 ∷ pos 0 ∷ [] }
    ∷ []

-- what is tested of each entry, as found against as wanted: that it equals its mirror image, its part in the sum of squares
record FactorFacts : Type 0 where
  mirror : ℤ
  scaled : ℤ

found : ℕ → FactorFacts
found k = record { mirror = factor k; scaled = pos 5040 *ℤ factor k }

wanted : ℕ → FactorFacts
wanted k = record { mirror = factor (k % risks * risks + k / risks); scaled = pos 2520 +ℤ made squares k }

tested : values found products ≡ values wanted products
unfolding values found wanted factor factors made squares
tested = refl

entry : (k : ℕ) → k < products → found k ≡ wanted k
entry = values_same found wanted products tested

-- at most 4 quarters in size
abbrev Small : ℤ → Type 0
Small z = nat_abs z ≤ 4

-- no factor is above 4 quarters in size, also at a place beside the table, where it is 0
pub factor_small : (k : ℕ) → nat_abs (factor k) ≤ 4
unfolding factor factors
factor_small k = each_at Small (pos 0) (omega arith) _ (each_at (Each Small) [] tt factors (omega arith) (k / risks)) (k % risks)

-- so it fits a byte and a machine word
pub small_fits : (z : ℤ) → nat_abs z ≤ 4 → SFits w8 z × SFits w64 z
small_fits z h = grind arith

-- rows and columns may change places
pub factor_symmetric : (i j : ℕ) → i < risks → j < risks → factor (i * risks + j) ≡ factor (j * risks + i)
unfolding found wanted
factor_symmetric i j h l =
    let e : (i * risks + j) % risks * risks + (i * risks + j) / risks ≡ j * risks + i = omega arith in
    ap (λ (x : FactorFacts). x.mirror) (entry (i * risks + j) (omega arith)) ∙ ap factor e

-- ---- the sum over all i, j of factor × x(i) × x(j), in quarters, for x of any sign

unfoldable pub form : (ℕ → ℤ) → ℤ
form x = sum products (λ k. factor k *ℤ product x k)

-- the square of the sum of x(1) to x(7)
abbrev square_of_sum : (ℕ → ℤ) → ℕ
square_of_sum x = nat_abs (sum risks x) * nat_abs (sum risks x)

-- 2520 × (twice the form less the square of the sum) is the sum of the squares
certified : (x : ℕ → ℤ) → pos 5040 *ℤ form x ≡ pos (2520 * square_of_sum x + sum_of_squares squares x)
unfolding form found wanted
certified x =
    sym (sum_times (λ k. factor k *ℤ product x k) (pos 5040) products)
    ∙ sum_same products _ _ (λ k h. scaled_at k h (product x k))
    ∙ sum_add (λ k. pos 2520 *ℤ product x k) (λ k. made squares k *ℤ product x k) products
    ∙ (λ i. ones i +ℤ made_sum squares x i)
  where
    scaled_at : (k : ℕ) → k < products → (p : ℤ) → pos 5040 *ℤ (factor k *ℤ p) ≡ pos 2520 *ℤ p +ℤ made squares k *ℤ p
    scaled_at k h p =
        sym (*ℤ_assoc (pos 5040) (factor k) p) ∙ ap (λ (e : FactorFacts). e.scaled *ℤ p) (entry k h) ∙ +ℤ-*ℤ (pos 2520) (made squares k) p

    ones : sum products (λ k. pos 2520 *ℤ product x k) ≡ pos (2520 * square_of_sum x)
    ones = sum_times (product x) (pos 2520) products ∙ ap (λ (z : ℤ). pos 2520 *ℤ z) (sum_square x ∙ square_pos (sum risks x))

-- it is never negative ..
pub form_natural : (x : ℕ → ℤ) → (q : ℕ) × (form x ≡ pos q)
form_natural x = go (form x) (certified x)
  where
    go : (z : ℤ) {m : ℕ} → pos 5040 *ℤ z ≡ pos m → (q : ℕ) × (z ≡ pos q)
    go (pos q) e = (q, refl)
    go (negsuc n) e = let k : 5040 * suc n ≡ suc (n + 5039 * suc n) = omega arith in never (cc (ap (λ (j : ℕ). neg_ℤ (pos j)) k))

-- .. and twice it at least the square of the sum
pub form_least : (x : ℕ → ℤ) (q : ℕ) → form x ≡ pos q → square_of_sum x ≤ 2 * q
form_least x q e =
    let g : pos (5040 * q) ≡ pos (2520 * square_of_sum x + sum_of_squares squares x) = sym (ap (λ (z : ℤ). pos 5040 *ℤ z) e) ∙ certified x in
    let h : 5040 * q ≡ 2520 * square_of_sum x + sum_of_squares squares x = cc in
    omega arith

-- of naturals it is at most four times that square: what each factor is short of 4 adds up to a natural
module _ (p : ℕ → ℕ) where
  short : (z : ℤ) → nat_abs z ≤ 4 → (c : ℕ) × (z +ℤ pos c ≡ pos 4)
  short (pos n) h = (4 - n, ap pos (omega arith))
  short (negsuc n) h = (suc n + 4, natural_diff (suc n) 4)

  most : (n : ℕ) → (m : ℕ) × (sum n (λ k. factor k *ℤ pos (p k)) +ℤ pos m ≡ pos 4 *ℤ sum n (λ k. pos (p k)))
  unfolding sum
  most zero = (0, refl)
  most (suc n) =
      let r = most n in
      let c = short (factor n) (factor_small n) in (
        r.0 + c.0 * p n,
        step (sum n (λ k. factor k *ℤ pos (p k))) (factor n) (pos (p n)) (pos r.0) (pos c.0)
            ∙ rw (r.1, c.1) (sym (*ℤ-+ℤ (pos 4) (sum n (λ k. pos (p k))) (pos (p n)))),
      )
    where
      step : (s f x m c : ℤ) → s +ℤ f *ℤ x +ℤ (m +ℤ c *ℤ x) ≡ s +ℤ m +ℤ (f +ℤ c) *ℤ x
      step s f x m c = simp ring

pub form_most : (y : ℕ → ℕ) (q s : ℕ) → form (λ i. pos (y i)) ≡ pos q → sum risks (λ i. pos (y i)) ≡ pos s → q ≤ 4 * (s * s)
unfolding form
form_most y q s e f =
    let m = most (λ k. y (k / risks) * y (k % risks)) products in
    let g : pos (q + m.0) ≡ pos (4 * (s * s)) =
    sym (ap (λ (z : ℤ). z +ℤ pos m.0) e) ∙ m.1 ∙ ap (λ (z : ℤ). pos 4 *ℤ z) (sum_square (λ i. pos (y i)) ∙ (λ i. f i *ℤ f i)) in
    let h : q + m.0 ≡ 4 * (s * s) = cc in
    omega arith

-- ---- the definition's sum is the form of the naturals

pub quarter_form : (ys : List ℕ) → quarter_sum ys ≡ form (λ i. pos (get_or ys i 0))
unfolding form factor
quarter_form ys = sym (in_order ys).all

-- 'A single term may be negative; Q never is'
pub quarter_natural : (ys : List ℕ) → (q : ℕ) × (quarter_sum ys ≡ pos q)
quarter_natural ys =
    let w = form_natural (λ i. pos (get_or ys i 0)) in
    (w.0, quarter_form ys ∙ w.1)
