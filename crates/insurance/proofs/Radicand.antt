-- The radicand of I as the code makes it is 10,000 × Q, and at most the square of V in hundredths: it fits the root, and what is made of the root
-- fits a word. Assumes nothing.
use Rattle.basics.proofs.Common.{◌≡◌, ℕ, ◌+◌, ◌*◌, ◌/◌, ◌^◌, ◌<◌, ◌≤◌, max, leb, List, pos, ◌*ℤ◌, nat_abs, sym, refl, ap, ◌∙◌, lt_of_le_of_lt, mul-le-mul, arith, lit<, least}
use Rattle.amount.specs.Amount.{limit}
use Rattle.sizes.specs.Sizes.{fineness, most_steps}
use Rattle.guideline.specs.Factors.{quarter_sum}
use Rattle.guideline.specs.Block.{AcceptedBlock, PC, seven, y, ys, Q4, largest_of, largest, root, fine_i}
use Rattle.guideline.proofs.Figures.{q, q_is, q_most, y_fits, v_fits, v_sum, fine_i_high, root_is}
use Rattle.root.specs.Steps.{steps}
use Rattle.root.proofs.Lengths.{few_steps}
use Rattle.correlation.specs.Products.{SmallYs}
use Rattle.insurance.specs.Radicand.{radicand_i}

-- V in hundredths is at most `largest_v`, and no radicand of a block calculation above its square
abbrev pub largest_v : ℕ
largest_v = fineness * (20 * limit)

abbrev pub largest_radicand : ℕ
largest_radicand = largest_v * largest_v

-- which fits the root and two words, and has at most 116 binary digits
pub in_root : (n : ℕ) → n ≤ largest_radicand → n < 2 ^ 124
in_root n h = lt_of_le_of_lt h (lit< tt)

pub in_words : (n : ℕ) → n ≤ largest_radicand → n < 2 ^ 128
in_words n h = lt_of_le_of_lt h (lit< tt)

pub in_steps : (n : ℕ) → n ≤ largest_radicand → steps n ≤ most_steps
in_steps n h = few_steps n most_steps (lt_of_le_of_lt h (lit< tt))

-- of the natural that four times Q is
radicand_is : (b : List ℕ) → radicand_i b ≡ fineness * fineness / 4 * q b
unfolding radicand_i
radicand_is b = omega (arith, ap nat_abs (q_is b))

-- 'the radicand of I is 10,000 × Q', four times each: nothing is rounded
pub radicand_exact : (b : List ℕ) → pos (4 * radicand_i b) ≡ pos (fineness * fineness) *ℤ Q4 b
radicand_exact b = rw (q_is b, radicand_is b) (ap pos (omega arith))

-- as the code makes it, of the sum over the y(i)
pub radicand_found : (b l : List ℕ) (s n : ℕ) → l ≡ ys b → pos s ≡ quarter_sum l → n ≡ s * (fineness * fineness / 4) → n ≡ radicand_i b
unfolding radicand_i Q4
radicand_found b l s n e f g = g ∙ omega (arith, ap nat_abs (f ∙ ap quarter_sum e))

pub root_found : (b : List ℕ) (n r : ℕ) → n ≡ radicand_i b → r ≡ least (λ x. leb n (x * x)) → r ≡ root b
root_found b n r e f = f ∙ (λ i. least (λ x. leb ((e ∙ radicand_is b) i) (x * x))) ∙ sym (root_is b (q b) (q_is b))

module _ (b : List ℕ) (h : AcceptedBlock b) where
  pub ys_fit : SmallYs (ys b)
  unfolding ys
  ys_fit =
      let f = y_fits b h in
      (f.0, (f.1, (f.2, (f.3, (f.4, (f.5, (f.6, tt)))))))

  pub radicand_small : radicand_i b ≤ largest_radicand
  radicand_small =
      let s : seven (y b) ≤ 20 * limit = omega (arith, v_fits b h, v_sum b h) in
      omega (arith, radicand_is b, q_most b, mul-le-mul s s)

  -- the product of two words and 2,500
  pub product_fits : (l : List ℕ) (s : ℕ) → l ≡ ys b → pos s ≡ quarter_sum l → s * (fineness * fineness / 4) < 2 ^ 128
  product_fits l s e f = in_words _ (omega (arith, radicand_found b l s _ e f refl, radicand_small))

  pub few_steps_i : steps (radicand_i b) ≤ most_steps
  few_steps_i = in_steps (radicand_i b) radicand_small

  pub floor_found : (l : List ℕ) (r : ℕ) → l ≡ ys b → r ≡ root b → max r (fineness * largest_of l) ≡ max (root b) (fineness * largest b)
  unfolding largest
  floor_found l r e f = λ i. max (f i) (fineness * largest_of (e i))

  pub floor_room : max (root b) (fineness * largest b) + fineness * (2 * PC b) < 2 ^ 64
  unfolding fine_i
  floor_room = omega (arith, v_fits b h, fine_i_high b h)
