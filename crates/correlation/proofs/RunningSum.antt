-- The running sum over the pairs of risks, one product more. Assumes nothing.
use Rattle.basics.proofs.Common.{◌≡◌, ℕ, suc, ◌+◌, ◌*◌, ◌/◌, ◌%◌, ◌^◌, ◌<◌, ◌≤◌, List, get_or, ℤ, pos, ◌+ℤ◌, ◌*ℤ◌, nat_abs, sym, ap, ◌∙◌, mul-le-mul, arith, each_at}
use Rattle.integer.specs.Sum.{sum}
use Rattle.integer.proofs.Integer.{abs_add, abs_mul}
use Rattle.amount.specs.Amount.{limit}
use Rattle.sizes.specs.Sizes.{risks}
use Rattle.guideline.specs.Factors.{factor, so_far}
use Rattle.guideline.proofs.Table.{factor_small}
use Rattle.correlation.specs.Products.{SmallYs, SoFar}

-- y(i) × y(j), as the code counts rows and columns
abbrev pub product : List ℕ → ℕ → ℕ → ℕ
product ys i j = get_or ys i 0 * get_or ys j 0

so_far_next : (ys : List ℕ) (i j : ℕ) → j < risks
    → so_far ys (risks * i + (j + 1)) ≡ so_far ys (risks * i + j) +ℤ factor (risks * i + j) *ℤ pos (product ys i j)
unfolding sum factor
so_far_next ys i j h =
    let e : risks * i + (j + 1) ≡ suc (risks * i + j) = omega arith in
    let r : (risks * i + j) / risks ≡ i = omega arith in
    let c : (risks * i + j) % risks ≡ j = omega arith in
    ap (so_far ys) e ∙ (λ t. so_far ys (risks * i + j) +ℤ factor (risks * i + j) *ℤ pos (product ys (r t) (c t)))

-- how large the product is, and then it times its factor
pub term_small : (ys : List ℕ) → SmallYs ys → (i j k : ℕ) (f : ℤ) → f ≡ factor k
    → (product ys i j ≤ 2 ^ 96) × (nat_abs (f *ℤ pos (product ys i j)) ≤ 2 ^ 98)
term_small ys h i j k f e =
    let p : product ys i j ≤ 2 ^ 48 * 2 ^ 48 = mul-le-mul (small i) (small j) in
    let q : nat_abs f ≤ 4 = rw e (factor_small k) in
    (p, rw (abs_mul f (pos (product ys i j))) (mul-le-mul q p))
  where
    small : (i : ℕ) → get_or ys i 0 ≤ 2 ^ 48
    small i = omega (arith, each_at (λ y. y ≤ 2 * limit) 0 (omega arith) ys h i)

-- one product more, from s to r
pub next : (ys : List ℕ) (i j : ℕ) (s f r : ℤ) → SoFar ys (risks * i + j) s → j < risks → f ≡ factor (risks * i + j)
    → r ≡ s +ℤ f *ℤ pos (product ys i j) → SoFar ys (risks * i + (j + 1)) r
next ys i j s f r w h e d =
    let t = f *ℤ pos (product ys i j) in
    record {
      small = w.small;
      sum = d ∙ (λ l. w.sum l +ℤ e l *ℤ pos (product ys i j)) ∙ sym (so_far_next ys i j h);
      room = rw d (omega (arith, w.room, abs_add s t, (term_small ys w.small i j _ f e).1));
    }
