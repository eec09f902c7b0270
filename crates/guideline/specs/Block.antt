-- A block's figures, sections 11.2.1 to 11.2.4, in the letters of document 01, 'A block', with document 02's #109: I and D are worked out in
-- hundredths of the half cent and reported in half cents. Figures in either are marked so; all others are in cents. A difference is cut at
-- 0; for a block that is accepted, none that is written here falls below 0 but M's (`v_difference`, `y_difference`).
-- A block is the block call's 17 numbers: seven pairs IR(i), LT(i), then PC, credit and market.
-- Assumes nothing.
use Rattle.std.specs.Prelude.{◌≡◌, List, [], ◌∷◌, ℕ, ◌+◌, ◌-◌, ◌*◌, max, ◌≤◌, leb, eqb, get_or, ℤ, pos, ◌+ℤ◌, ◌-ℤ◌, ◌*ℤ◌}
use Rattle.std.proofs.Common.{sym, ap, ◌∙◌, arith}
use Rattle.std.specs.Int.Signed.{le_z}
use Rattle.integer.specs.Larger.{larger}
use Rattle.integer.proofs.Integer.{as_diff, diff_eq, diff_add}
use Rattle.integer.proofs.Difference.{cut_larger, less_diff, exact_difference}
use Rattle.amount.specs.Amount.{limit}
use Rattle.basics.specs.Pick.{pick}
use Rattle.basics.specs.Least.{least}
use Rattle.sizes.specs.Sizes.{pc_position, credit_position, market_position, fineness}
use Rattle.guideline.specs.Factors.{quarter_sum}

-- the gross component IR(i) of risk i, from 1 to 7
abbrev pub ir : List ℕ → ℕ → ℕ
ir b i = get_or b (2 * i - 2) 0

-- its level and trend part LT(i)
abbrev pub lt : List ℕ → ℕ → ℕ
lt b i = get_or b (2 * i - 1) 0

-- property and casualty
abbrev pub PC : List ℕ → ℕ
PC b = get_or b pc_position 0

-- credit
abbrev pub credit : List ℕ → ℕ
credit b = get_or b credit_position 0

-- market
abbrev pub market : List ℕ → ℕ
market b = get_or b market_position 0

-- credit plus market
unfoldable pub A : List ℕ → ℕ
A b = credit b + market b

-- the sum over the seven risks
abbrev pub seven : (ℕ → ℕ) → ℕ
seven f = f 1 + f 2 + f 3 + f 4 + f 5 + f 6 + f 7

-- the undiversified requirement
unfoldable pub U : List ℕ → ℕ
U b = seven (ir b) + PC b + A b

-- level and trend, 'LT without a number'
unfoldable pub LT : List ℕ → ℕ
LT b = seven (lt b)

-- V = 2U − LT, in half cents (`V` alone is a reserved word)
unfoldable pub Vh : List ℕ → ℕ
Vh b = 2 * U b - LT b

-- y(i), in half cents
unfoldable pub y : List ℕ → ℕ → ℕ
y b i = 2 * ir b i - lt b i

-- no half cent is lost: with a cent more of LT(i), y(i) is a half cent less
pub y_falls : (b c : List ℕ) (i : ℕ) → ir c i ≡ ir b i → lt c i ≡ lt b i + 1 → lt c i ≤ ir c i → y c i + 1 ≡ y b i
unfolding y
y_falls b c i h k l = omega arith

-- y(1) to y(7)
unfoldable pub ys : List ℕ → List ℕ
ys b = y b 1 ∷ y b 2 ∷ y b 3 ∷ y b 4 ∷ y b 5 ∷ y b 6 ∷ y b 7 ∷ []

-- four times Q
unfoldable pub Q4 : List ℕ → ℤ
Q4 b = quarter_sum (ys b)

-- the largest of seven numbers
unfoldable pub largest_of : List ℕ → ℕ
largest_of y =
    max (get_or y 0 0) (max (get_or y 1 0) (max (get_or y 2 0) (max (get_or y 3 0) (max (get_or y 4 0) (max (get_or y 5 0) (get_or y 6 0))))))

-- the largest y(i)
unfoldable pub largest : List ℕ → ℕ
largest b = largest_of (ys b)

-- 'each root the least whole number of them (the radicand of I is 10,000 × Q)', of hundredths of the half cent; four times each
unfoldable pub root : List ℕ → ℕ
root b = least (λ r. le_z (pos (fineness * fineness) *ℤ Q4 b) (pos (4 * (r * r))))

-- insurance risks with PC, in hundredths of the half cent: 'the larger of [the root] and the largest y(i); to it 2 × PC is added'
unfoldable pub fine_i : List ℕ → ℕ
fine_i b = max (root b) (fineness * largest b) + fineness * (2 * PC b)

-- a = 2 × A
unfoldable pub a : List ℕ → ℕ
a b = 2 * A b

-- 'a² + a × I + I²', of which D is the root
abbrev pub radicand : ℕ → ℕ → ℕ
radicand a i = a * a + a * i + i * i

-- the diversified requirement, in hundredths of the half cent
unfoldable pub fine_d : List ℕ → ℕ
fine_d b = least (λ d. leb (radicand (fineness * a b) (fine_i b)) (d * d))

-- 'The report and the block call still give I and D in half cents, the least at or above'
unfoldable pub reported : ℕ → ℕ
reported x = least (λ h. leb x (fineness * h))

-- I as it is reported, in half cents
unfoldable pub I : List ℕ → ℕ
I b = reported (fine_i b)

-- D as it is reported, in half cents
unfoldable pub D : List ℕ → ℕ
D b = reported (fine_d b)

-- 'the larger of 0 and 7V² − 31 × D × V + 30D²'
abbrev pub M : ℕ → ℕ → ℕ
M v d = 7 * (v * v) + 30 * (d * d) - 31 * (d * v)

-- K's numerator, over 60 × V: what 60 × V × K has to reach
abbrev pub k_numerator : ℕ → ℕ → ℕ → ℕ → ℕ
k_numerator u l v d = 48 * (u * v) + 6 * (l * v) + M v d

-- where nothing diversifies, and D is V, K's fraction is U
pub k_undiversified : (u l v : ℕ) → 2 * u ≡ v + l → k_numerator u l v v ≡ 60 * (v * u)
k_undiversified u l v h = omega (arith, ap (λ (z : ℕ). z * v) h)

-- M in ℤ
pub m_larger : (v d : ℕ) → pos (M v d) ≡ larger (pos 0) (pos (7 * (v * v)) -ℤ pos (31 * (d * v)) +ℤ pos (30 * (d * d)))
m_larger v d =
    let s = 7 * (v * v) in
    let t = 31 * (d * v) in
    let r = 30 * (d * d) in
    let m : M v d ≡ s + r - t = omega arith in
    ap pos m
    ∙ cut_larger (s + r) t
    ∙ ap (larger (pos 0)) (sym ((λ k. less_diff s t k +ℤ as_diff r k) ∙ diff_add s t r 0 ∙ diff_eq (s + r) (t + 0) (s + r) t (omega arith)))

-- what 60 × V × K is to reach, with d in hundredths of the half cent: U, LT and V are taken in hundredths beside it, and K too
abbrev pub fine_numerator : ℕ → ℕ → ℕ → ℕ → ℕ
fine_numerator u l v d = k_numerator (fineness * u) (fineness * l) (fineness * v) d

-- K by U, LT, V and D, which is in hundredths of the half cent
unfoldable pub requirement : ℕ → ℕ → ℕ → ℕ → ℕ
requirement u l v d = pick (eqb u 0) 0 (least (λ k. leb (fine_numerator u l v d) (60 * (fineness * v * (fineness * k)))))

-- the adjusted requirement: 'K is taken at this finer D and still rounded up to a cent'
unfoldable pub K : List ℕ → ℕ
K b = requirement (U b) (LT b) (Vh b) (fine_d b)

-- the five figures that are reported of a block, in this order
unfoldable pub figures_of : List ℕ → List ℕ
figures_of b = I b ∷ D b ∷ U b ∷ LT b ∷ K b ∷ []

-- of each of the seven risks
abbrev pub EachRisk : (ℕ → Type 0) → Type 0
EachRisk P = P 1 × P 2 × P 3 × P 4 × P 5 × P 6 × P 7

-- what rules 7, 8 and 9 leave: no amount above the limit, LT(7) zero, no LT(i) above its IR(i)
pub record AcceptedBlock (b : List ℕ) : Type 0 where
  pub ir_fits : EachRisk (λ i. ir b i ≤ limit)
  pub lt_within : EachRisk (λ i. lt b i ≤ ir b i)
  pub lt_seven : lt b 7 ≡ 0
  pub pc_fits : PC b ≤ limit
  pub credit_fits : credit b ≤ limit
  pub market_fits : market b ≤ limit

-- in a block that is accepted V is the difference of ℤ: it isn't cut at 0
pub v_difference : (b : List ℕ) → AcceptedBlock b → pos (Vh b) ≡ pos (2 * U b) -ℤ pos (LT b)
unfolding Vh U LT
v_difference b v = exact_difference (2 * U b) (LT b) (Vh b) (omega arith)

-- nor is any y(i)
pub y_difference : (b : List ℕ) → AcceptedBlock b → EachRisk (λ i. pos (y b i) ≡ pos (2 * ir b i) -ℤ pos (lt b i))
unfolding y
y_difference b v = (at 1 (omega arith), at 2 (omega arith), at 3 (omega arith), at 4 (omega arith), at 5 (omega arith), at 6 (omega arith), at 7 (omega arith))
  where
    at : (i : ℕ) → y b i + lt b i ≡ 2 * ir b i → pos (y b i) ≡ pos (2 * ir b i) -ℤ pos (lt b i)
    at i e = exact_difference (2 * ir b i) (lt b i) (y b i) e
