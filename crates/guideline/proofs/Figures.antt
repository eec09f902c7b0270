-- What the figures of an accepted block obey: no difference is cut, the root lies between a third of the sum of y and that sum, so D between a
-- third of V and V, and K between half of LT + D and U. Each is shown of the finer figures, and then of the reported ones. Assumes nothing.
-- In order: a block that is accepted, by its 17 numbers; Q and its root; K by U, LT, V and D; half cents, the least at or above a number of
-- hundredths; the figures; as code finds the root.
use Rattle.basics.proofs.Common.{◌≡◌, ℕ, ◌+◌, ◌-◌, ◌*◌, ◌/◌, ◌^◌, ◌<◌, ◌≤◌, leb, List, length, get_or, ℤ, pos, ◌*ℤ◌, sym, refl, ap, ◌∙◌, mul-le-mul, mul-le-mul_left, ne_of_gt, arith, dec_le, le_z}
use Rattle.basics.proofs.Common.{Each, least, pick, LeastOf, least_of, if_ne, le_of_squares, leb_same}
use Rattle.basics.proofs.LeastOf.{Rising}
use Rattle.integer.specs.Sum.{sum}
use Rattle.amount.specs.Amount.{limit}
use Rattle.sizes.specs.Sizes.{risks, last_lt_position, block_figures, FitsColumns, fineness}
use Rattle.guideline.specs.Block.{ir, lt, PC, A, seven, U, LT, Vh, y, ys, Q4, largest_of, largest, root, fine_i, a, radicand, fine_d, reported, I, D, fine_numerator, requirement, K, EachRisk}
use Rattle.guideline.specs.Block.{AcceptedBlock, figures_of}
use Rattle.guideline.proofs.Table.{form, form_least, form_most, quarter_form, quarter_natural}
use Rattle.guideline.proofs.Bounds.{radicand_most, root_thrice, m_rises, k_least, u_passes}

-- ---- a block that is accepted, by its 17 numbers

pub accepted_of_lem :
    (b : List ℕ) → ((k : ℕ) → get_or b k 0 ≤ limit) → get_or b last_lt_position 0 ≡ 0 → ((i : ℕ) → i < risks → get_or b (2 * i + 1) 0 ≤ get_or b (2 * i) 0) →
    AcceptedBlock b
accepted_of_lem b a z w = grind arith

-- ---- Q and its root

-- four times Q, as a natural
unfoldable pub q : List ℕ → ℕ
q b = (quarter_natural (ys b)).0

pub q_is : (b : List ℕ) → Q4 b ≡ pos (q b)
unfolding Q4 q
q_is b = (quarter_natural (ys b)).1

-- the least number by a test against an integer that is a natural
least_of_pos : {z : ℤ} {n : ℕ} → z ≡ pos n → (f : ℕ → ℕ) → Rising f → (w : ℕ) → w < 2 ^ 64 → n ≤ f w → LeastOf n f (least (λ r. le_z z (pos (f r))))
least_of_pos {z} {n} e f rises w lt h = rw e (least_of n f rises w lt h)

module _ (b : List ℕ) where
  summed : sum risks (λ i. pos (get_or (ys b) i 0)) ≡ pos (seven (y b))
  unfolding sum ys
  summed = ap pos (omega arith)

  pub formed : form (λ i. pos (get_or (ys b) i 0)) ≡ pos (q b)
  unfolding Q4
  formed = sym (quarter_form (ys b)) ∙ q_is b

  -- 8Q is at least the square of the sum of the y(i), and Q at most that square
  pub q_least : seven (y b) * seven (y b) ≤ 2 * q b
  q_least = rw summed at (form_least (λ i. pos (get_or (ys b) i 0)) (q b) formed)

  pub q_most : q b ≤ 4 * (seven (y b) * seven (y b))
  q_most = form_most (λ i. get_or (ys b) i 0) (q b) (seven (y b)) formed summed

  pub largest_high : largest b ≤ seven (y b)
  unfolding largest largest_of ys
  largest_high = omega arith

-- ---- K by U, LT, V and D

module _ (u l v d : ℕ) where
  pub requirement_none : u ≡ 0 → requirement u l v d ≡ 0
  unfolding requirement pick
  requirement_none e = rw e refl

  pub requirement_some : 0 < u → requirement u l v d ≡ least (λ k. leb (fine_numerator u l v d) (60 * (fineness * v * (fineness * k))))
  unfolding requirement
  requirement_some h = if_ne 0 (ne_of_gt h)

module _ (u l v : ℕ) (v_is : 2 * u ≡ v + l) (fits : u < 2 ^ 64) where
  -- U reaches the numerator
  pub numerator_within : (d : ℕ) → d ≤ fineness * v → fineness * v ≤ 3 * d → fine_numerator u l v d ≤ 60 * (fineness * v * (fineness * u))
  numerator_within d high low = u_passes (fineness * u) (fineness * l) (fineness * v) d (omega arith) high low

  requirement_law :
      (d : ℕ) → d ≤ fineness * v → fineness * v ≤ 3 * d → 0 < u →
      LeastOf (fine_numerator u l v d) (λ k. 60 * (fineness * v * (fineness * k))) (requirement u l v d)
  requirement_law d high low h = search (arith, requirement_some, least_of, mul-le-mul_left, numerator_within)

  -- 'K never falls as D rises'
  pub requirement_rises : (d e : ℕ) → fineness * v ≤ 3 * d → d ≤ e → e ≤ fineness * v → requirement u l v d ≤ requirement u l v e
  requirement_rises d e low up high =
      elim (dec_le 1 u) [
        | yes h ↦ (requirement_law d (omega arith) low h).first (requirement u l v e)
            (omega (arith, m_rises (fineness * v) d e low up, (requirement_law e high (omega arith) h).reaches))
        | no h ↦ omega (arith, requirement_none u l v d (omega arith))
      ]

-- ---- half cents, the least at or above a number of hundredths

reported_law : (x : ℕ) → x < 2 ^ 64 → LeastOf x (λ h. fineness * h) (reported x)
unfolding reported
reported_law x fits =
    let l : LeastOf x _ (reported x) = least_of x _ (λ m k le. omega arith) x fits (omega arith) in
    record { reaches = omega (arith, l.reaches); first = λ m h. l.first m (omega arith) }

-- ---- the figures

module _ (b : List ℕ) (v : AcceptedBlock b) where
  y_is : EachRisk (λ i. y b i + lt b i ≡ 2 * ir b i)
  unfolding y
  y_is = omega arith

  -- the widths of y(i), U and V
  pub y_fits : EachRisk (λ i. y b i ≤ 2 * limit)
  unfolding y
  y_fits = omega arith

  -- V = 2U − LT, with no difference
  pub v_is : 2 * U b ≡ Vh b + LT b
  unfolding U LT Vh
  v_is = omega arith

  pub u_fits : U b ≤ 10 * limit
  unfolding U A
  u_fits = omega arith

  pub u_high : U b ≤ Vh b
  unfolding U LT Vh
  u_high = omega arith

  -- V is the sum of all that I and D are made of
  pub v_sum : Vh b ≡ seven (y b) + 2 * PC b + a b
  unfolding U LT a
  v_sum = omega (arith, v_is, y_is)

  pub v_fits : Vh b ≤ 20 * limit
  v_fits = omega (arith, v_is, u_fits)

  v_small : fineness * Vh b < 2 ^ 64
  v_small = omega (arith, v_fits)

  pub u_small : U b < 2 ^ 64
  u_small = omega (arith, u_fits)

  -- the sum of the y(i) reaches the radicand of I
  sum_passes : fineness * fineness * q b ≤ 4 * (fineness * seven (y b) * (fineness * seven (y b)))
  sum_passes = omega (arith, q_most b)

  pub root_law : LeastOf (fineness * fineness * q b) (λ r. 4 * (r * r)) (root b)
  unfolding root
  root_law =
      let e : pos (fineness * fineness) *ℤ Q4 b ≡ pos (fineness * fineness * q b) = ap (λ (z : ℤ). pos (fineness * fineness) *ℤ z) (q_is b) in
      let l : LeastOf (fineness * fineness * q b) _ (root b) =
      least_of_pos e _ (λ m k le. omega (arith, mul-le-mul le le)) (fineness * seven (y b)) (omega (arith, v_small, v_sum)) (omega (arith, sum_passes)) in
      record { reaches = omega (arith, l.reaches); first = λ m h. l.first m (omega arith) }

  -- the finer I is at most V, also with a beside it
  pub fine_i_high : fineness * a b + fine_i b ≤ fineness * Vh b
  unfolding fine_i
  fine_i_high = omega (arith, v_sum, largest_high b, root_law.first (fineness * seven (y b)) sum_passes)

  v_passes : radicand (fineness * a b) (fine_i b) ≤ fineness * Vh b * (fineness * Vh b)
  v_passes = radicand_most (fineness * a b) (fine_i b) (fineness * Vh b) fine_i_high

  pub fine_d_law : LeastOf (radicand (fineness * a b) (fine_i b)) (λ d. d * d) (fine_d b)
  unfolding fine_d
  fine_d_law = search (arith, least_of, mul-le-mul, v_small, v_passes)

  pub fine_d_high : fine_d b ≤ fineness * Vh b
  fine_d_high = fine_d_law.first (fineness * Vh b) v_passes

  -- 'From the matrix, 3 × D is at least V': three roots reach the sum of the y(i)
  pub fine_d_third : fineness * Vh b ≤ 3 * fine_d b
  unfolding fine_i
  fine_d_third =
      let three = le_of_squares (fineness * seven (y b)) (3 * root b) (omega (arith, q_least b, root_law.reaches)) in
      omega (arith, v_sum, three, root_thrice (fineness * a b) (fine_i b) (fine_d b) fine_d_law.reaches)

  -- I and D as they are reported
  pub i_law : LeastOf (fine_i b) (λ h. fineness * h) (I b)
  unfolding I
  i_law = reported_law (fine_i b) (omega (arith, v_small, fine_i_high))

  pub d_law : LeastOf (fine_d b) (λ h. fineness * h) (D b)
  unfolding D
  d_law = reported_law (fine_d b) (omega (arith, v_small, fine_d_high))

  i_high : I b ≤ Vh b
  i_high = i_law.first (Vh b) (omega (arith, fine_i_high))

  pub d_high : D b ≤ Vh b
  d_high = d_law.first (Vh b) fine_d_high

  pub d_third : Vh b ≤ 3 * D b
  d_third = omega (arith, fine_d_third, d_law.reaches)

  pub k_law : 0 < U b → LeastOf (fine_numerator (U b) (LT b) (Vh b) (fine_d b)) (λ k. 60 * (fineness * Vh b * (fineness * k))) (K b)
  unfolding K
  k_law h = requirement_law (U b) (LT b) (Vh b) v_is u_small (fine_d b) fine_d_high fine_d_third h

  pub k_none : U b ≡ 0 → K b ≡ 0
  unfolding K
  k_none e = requirement_none (U b) (LT b) (Vh b) (fine_d b) e

  pub k_high : K b ≤ U b
  k_high =
      elim (dec_le 1 (U b)) [
        | yes h ↦ (k_law h).first (U b) (numerator_within (U b) (LT b) (Vh b) v_is u_small (fine_d b) fine_d_high fine_d_third)
        | no h ↦ omega (arith, k_none (omega arith))
      ]

  -- of the finer D, and so of the reported one: 2K − LT is a whole number of half cents
  pub k_twice : LT b + D b ≤ 2 * K b
  k_twice =
      elim (dec_le 1 (U b)) [
        | yes h ↦
            let fine =
            k_least (fineness * U b) (fineness * LT b) (fineness * Vh b) (fine_d b) (omega (arith, v_is)) fine_d_high (fineness * K b) (omega (arith, u_high))
            (k_law h).reaches in
            omega (arith, d_law.first (2 * K b - LT b) (omega arith))
        | no h ↦ omega (arith, v_is, d_high)
      ]

  -- each figure fits the columns of its line
  pub figures_fit : Each FitsColumns (figures_of b)
  unfolding figures_of
  figures_fit = omega (arith, v_is, u_fits, i_high, d_high, k_high)

-- a block has so many figures
pub figures_long : (b : List ℕ) → length (figures_of b) ≡ block_figures
unfolding figures_of
figures_long b = refl

-- ---- as code finds the root

-- where the sum in quarters is a natural q, the root is that of 2,500 × q, a whole number
pub root_is : (b : List ℕ) (q : ℕ) → Q4 b ≡ pos q → root b ≡ least (λ r. leb (fineness * fineness / 4 * q) (r * r))
unfolding root
root_is b q e = grind (arith, leb_same)
