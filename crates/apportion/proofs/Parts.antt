-- What the code finds part by part is what the definitions say of the list of margins: a quotient with its rest, what they leave of K, and the
-- cents by ranks among the rests. Assumes nothing.
-- In order: a quotient and its rest; K × margin over the sum, part by part; the cents.
use Rattle.basics.proofs.Common.{◌≡◌, ℕ, zero, suc, ◌+◌, ◌-◌, ◌*◌, ◌/◌, ◌%◌, ◌^◌, ◌<◌, ◌≤◌, Bool, true, false, eqb, ltb, List, get_or, sym, refl, ap, ◌∙◌, mul-le-mul, div-add-mod', add-one, arith}
use Rattle.basics.proofs.Common.{list_to, pick, sum_to, one, listed_start, listed_more, listed_all, sum_step, sum_same}
use native.Mathlib.Nat.{div-eq_of_lt-le}
use lib.ListN.{get_or-map}
use mir.Val.{bool_byte}
use Rattle.division.specs.declared.Division.{Division}
use Rattle.basics.proofs.Totals.{sum_part}
use Rattle.basics.proofs.Ascents.{list_same}
use Rattle.sizes.specs.Sizes.{parts}
use Rattle.apportion.specs.Shares.{value_of_part, total, base, remainder, left_over, before, rank, cent, share, shares}
use Rattle.apportion.specs.Steps.{Shareable, quotients, rests}
use Rattle.apportion.proofs.Ranks.{rank_alike}
use Rattle.apportion.proofs.Fairness.{of_part, base_most}

-- a test as a number
pub as_number : (t : Bool) → bool_byte t ≡ one t
unfolding one pick
as_number true = refl
as_number false = refl

-- the number at place i is that of part i + 1
pub part_at : (l : List ℕ) (i : ℕ) → value_of_part l (i + 1) ≡ get_or l i 0
part_at l i = rw add-one refl

-- and that of part p at place p − 1
part_before : (l : List ℕ) (p : ℕ) → 1 ≤ p → get_or l (p - 1) 0 ≡ value_of_part l p
part_before l zero h = absurd (omega arith)
part_before l (suc i) h = let e : suc i - 1 ≡ i = omega arith in rw e refl

-- where the parts are divided, the quotient and the rest at place i are those of part i + 1
abbrev pub nothing : Division ℕ
nothing = record { quotient = 0; rest = 0 }

pub quotient_at : (l : List (Division ℕ)) (i : ℕ) → value_of_part (quotients l) (i + 1) ≡ (get_or l i nothing).quotient
quotient_at l i = part_at (quotients l) i ∙ get_or-map (λ d. d.quotient) l i nothing

-- one where the part at place i comes before part p
pub counted : (l : List (Division ℕ)) (i p : ℕ) → 1 ≤ p →
    let r : ℕ = (get_or l i nothing).rest in
    let s : ℕ = (get_or l (p - 1) nothing).rest in
    one (pick (eqb r s) (ltb (i + 1) p) (ltb s r)) ≡ one (before (value_of_part (rests l)) (i + 1) p)
unfolding before
counted l i p h =
    let a : (get_or l i nothing).rest ≡ value_of_part (rests l) (i + 1) = sym (part_at (rests l) i ∙ get_or-map (λ d. d.rest) l i nothing) in
    let b : (get_or l (p - 1) nothing).rest ≡ value_of_part (rests l) p = sym (get_or-map (λ d. d.rest) l (p - 1) nothing) ∙ part_before (rests l) p h in
    λ j. one (pick (eqb (a j) (b j)) (ltb (i + 1) p) (ltb (b j) (a j)))

-- no part's number is above their sum
pub part_within : (f : ℕ → ℕ) (i : ℕ) → i < parts → f (i + 1) ≤ total f
part_within f i h = rw add-one (omega (arith, sum_part f parts i h))

-- the shares go by the margins of the ten parts alone
pub shares_alike : (k : ℕ) (f g : ℕ → ℕ) → ((p : ℕ) → 1 ≤ p → p ≤ parts → f p ≡ g p) → shares k f ≡ shares k g
unfolding shares share cent left_over base remainder
shares_alike k f g e = list_same _ _ parts (λ p o w j. base_same p o w j + one (ltb (rank_same p o w j) (k - sum_same _ _ parts base_same j)))
  where
    total_same : total f ≡ total g
    total_same = sum_same f g parts e

    base_same : (p : ℕ) → 1 ≤ p → p ≤ parts → k * f p / total f ≡ k * g p / total g
    base_same p o w j = k * e p o w j / total_same j

    rank_same : (p : ℕ) → 1 ≤ p → p ≤ parts → rank (λ q. k * f q % total f) parts p ≡ rank (λ q. k * g q % total g) parts p
    rank_same p o w = rank_alike _ _ parts p o w (λ q a b j. k * e q a b j % total_same j)

-- ---- a quotient and its rest

module _ (n d q r : ℕ) (adds_up : q * d + r ≡ n) (small : r < d) where
  pub quotient_is : q ≡ n / d
  quotient_is = sym (div-eq_of_lt-le {k = q} d (omega arith) (omega arith))

  pub rest_is : r ≡ n % d
  rest_is = omega (arith, div-add-mod' n d, ap (λ (x : ℕ). x * d) quotient_is)

-- a word times a margin that is within the sum: over the sum it is a word again
pub product_fits : (n k m d : ℕ) → n ≡ k * m → k < 2 ^ 64 → m ≤ d → n ≤ d * (2 ^ 64 - 1)
product_fits n k m d e h l = let w : k ≤ 2 ^ 64 - 1 = omega arith in omega (arith, mul-le-mul w l)

-- ---- K × margin over the sum, part by part

module _ (k : ℕ) (l : List ℕ) (s : ℕ) (h : Shareable k (value_of_part l) s) where
  some : 0 < total (value_of_part l)
  some = omega (arith, h.sum_is, h.some)

  pub margin_within : (i : ℕ) → i < parts → get_or l i 0 ≤ s
  margin_within i w = omega (arith, h.sum_is, part_at l i, part_within (value_of_part l) i w)

  pub base_is : (i q : ℕ) → q ≡ k * get_or l i 0 / s → q ≡ base k (value_of_part l) (i + 1)
  unfolding base
  base_is i q e = e ∙ (λ j. k * sym (part_at l i) j / h.sum_is j)

  pub remainder_is : (i r : ℕ) → r ≡ k * get_or l i 0 % s → r ≡ remainder k (value_of_part l) (i + 1)
  unfolding remainder
  remainder_is i r e = e ∙ (λ j. k * sym (part_at l i) j % h.sum_is j)

  -- what is left of K when the first i shares are taken off it
  module _ (i q left : ℕ) (w : i < parts) (e : q ≡ base k (value_of_part l) (i + 1)) (f : left + sum_to (base k (value_of_part l)) i ≡ k) where
    pub takes : q ≤ left
    takes = omega (arith, rw add-one at e, sum_part (base k (value_of_part l)) parts i w, base_most k (value_of_part l) some)

    pub left_after : left - q + sum_to (base k (value_of_part l)) (i + 1) ≡ k
    left_after = omega (arith, takes, sum_step (base k (value_of_part l)) i)

  pub left_all : (left : ℕ) → left + total (base k (value_of_part l)) ≡ k → left ≡ left_over k (value_of_part l)
  unfolding left_over
  left_all left f = omega arith

  -- ---- the cents

  module _ (quotients : List ℕ) (down : quotients ≡ list_to (base k (value_of_part l)) parts) where
    base_at : (p : ℕ) → 1 ≤ p → p ≤ parts → value_of_part quotients p ≡ base k (value_of_part l) p
    base_at p o w = ap (λ (x : List ℕ). value_of_part x p) down ∙ of_part (base k (value_of_part l)) parts p o w

    -- what is rounded down is together at most K
    pub base_fits : total (value_of_part quotients) < 2 ^ 63
    base_fits = omega (arith, sum_same _ _ parts base_at, base_most k (value_of_part l) some, h.small)

    -- the quotients with their cents are the shares
    module _ (rests : List ℕ) (left : ℕ) (remain : rests ≡ list_to (remainder k (value_of_part l)) parts) (e : left ≡ left_over k (value_of_part l)) where
      rest_at : (p : ℕ) → 1 ≤ p → p ≤ parts → value_of_part rests p ≡ remainder k (value_of_part l) p
      rest_at p o w = ap (λ (x : List ℕ). value_of_part x p) remain ∙ of_part (remainder k (value_of_part l)) parts p o w

      pub shared : list_to (λ p. value_of_part quotients p + one (ltb (rank (value_of_part rests) parts p) left)) parts ≡ shares k (value_of_part l)
      unfolding shares share cent
      shared =
          list_same _ _ parts
          (λ p o w j. base_at p o w j + one (ltb (rank_alike (value_of_part rests) (remainder k (value_of_part l)) parts p o w rest_at j) (e j)))

-- what the division into parts meets, part after part
pub ruleset parts_divided = (listed_start, listed_more, listed_all, margin_within, base_is, remainder_is, takes, left_after, left_all)
