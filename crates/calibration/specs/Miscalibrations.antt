-- Document 01, 'Miscalibrations to exclude', and two more of chapter 8: each class rounded up, 120 % in whole cents. All are of the block call and the
-- operational call. Each is the figure that a program with it would give, and what is then true of its call: where
-- the call accepts, its figure is that one. Netting is what is true of two of its figures. Nothing is asked of what the call refuses, nor of
-- lists of a length that no caller can hand it.
-- Assumes nothing.
use Rattle.std.specs.Prelude.{◌≡◌, List, [], ◌∷◌, ℕ, ◌+◌, ◌-◌, ◌*◌, ◌/◌, ◌^◌, max, ◌≤◌, ◌<◌, leb, eqb, length, get_or, set, drop, ℤ, pos, ◌*ℤ◌}
use Rattle.std.specs.Int.Signed.{le_z}
use Rattle.basics.specs.Pick.{pick}
use Rattle.basics.specs.Least.{least}
use Rattle.refusal.specs.Outcome.{Outcome}
use Rattle.refusal.specs.Outcome.Outcome.{accepted, refused}
use Rattle.sizes.specs.Sizes.{risks, block_numbers, territory_numbers, volume_numbers, general_figures, fineness, ten_thousandths}
use Rattle.guideline.specs.Factors.{quarter_sum}
use Rattle.guideline.specs.Block.{ir, lt, PC, U, LT, Vh, y, ys, Q4, largest_of, largest, root, a, radicand, fine_d, reported, k_numerator, requirement, EachRisk}
use Rattle.guideline.specs.Operational.{factor_of, current, prior, total, volume, general_requirement, operational_denominator}
use Rattle.block.specs.Call.{block_call}
use Rattle.operational.specs.Call.{operational_call}

-- what a program with a miscalibration gives, at its plainest: it refuses as the call does, and has the figure x in place of the first value
abbrev pub put_in_place : Outcome → ℕ → Outcome
put_in_place (accepted vs) x = accepted (x ∷ drop 1 vs)
put_in_place (refused n p) x = refused n p

-- the same with x in place of the value at a place
abbrev pub put_at : (at : ℕ) → Outcome → ℕ → Outcome
put_at at (accepted vs) x = accepted (set vs at x)
put_at at (refused n p) x = refused n p

-- ---- the block call

-- a call on 17 numbers that meets the block call's contract
abbrev pub MeetsBlock : (List ℕ → Outcome) → Type 0
MeetsBlock call = (b : List ℕ) → length b ≡ block_numbers → call b ≡ block_call b

-- where the call accepts 17 numbers, its value at a place is `wrong`
abbrev pub GivesFigure : (List ℕ → Outcome) → (at : ℕ) → (List ℕ → ℕ) → Type 0
GivesFigure call at wrong = (b vs : List ℕ) → length b ≡ block_numbers → call b ≡ accepted vs → get_or vs at 0 ≡ wrong b

-- I of other y(i) and of what is added after the floor, in hundredths of the half cent
unfoldable pub i_from : List ℕ → ℕ → ℕ
i_from xs pc =
    let root = least (λ r. le_z (pos (fineness * fineness) *ℤ quarter_sum xs) (pos (4 * (r * r)))) in
    max root (fineness * largest_of xs) + fineness * (2 * pc)

-- I with 'PC [added] to one risk's y before the sum and the floor are taken': to that of risk k
unfoldable pub pc_in_risk : ℕ → List ℕ → ℕ
pc_in_risk k b =
    let xs = set (ys b) (k - 1) (y b k + 2 * PC b) in
    reported (i_from xs 0)

-- where the call accepts 17 numbers, its I is the one with PC in a risk, whichever: the same for every block, or another for each
abbrev pub PcInOneRisk : (List ℕ → Outcome) → Type 0
PcInOneRisk call =
    (b vs : List ℕ) → length b ≡ block_numbers → call b ≡ accepted vs → (k : ℕ) × (1 ≤ k) × (k ≤ risks) × (get_or vs 0 0 ≡ pc_in_risk k b)

-- PC left 'out where the floor is the larger': where it is, and the call accepts, its I is the largest y
abbrev pub PcLeftOut : (List ℕ → Outcome) → Type 0
PcLeftOut call =
    (b vs : List ℕ) → length b ≡ block_numbers → call b ≡ accepted vs → root b < fineness * largest b →
    get_or vs 0 0 ≡ reported (fineness * largest b)

-- ---- 'Halving LT in whole cents'

-- y(i) with LT(i) halved so, each risk's in a way of its own
abbrev pub y_halved : (ℕ → ℕ → ℕ) → List ℕ → ℕ → ℕ
y_halved half b i = 2 * (ir b i - half i (lt b i))

-- y(1) to y(7)
unfoldable pub ys_halved : (ℕ → ℕ → ℕ) → List ℕ → List ℕ
ys_halved half b =
    y_halved half b 1 ∷ y_halved half b 2 ∷ y_halved half b 3 ∷ y_halved half b 4 ∷ y_halved half b 5 ∷ y_halved half b 6 ∷ y_halved half b 7 ∷ []

-- where the call accepts, its I is of these, whichever whole numbers of cents are taken for the halves
abbrev pub LTHalvedInY : (List ℕ → Outcome) → Type 0
LTHalvedInY call = (half : ℕ → ℕ → ℕ) × GivesFigure call 0 (λ b. reported (i_from (ys_halved half b) (PC b)))

-- LT(1) to LT(7)
abbrev pub lts : List ℕ → List ℕ
lts b = lt b 1 ∷ lt b 2 ∷ lt b 3 ∷ lt b 4 ∷ lt b 5 ∷ lt b 6 ∷ lt b 7 ∷ []

-- V with LT halved in whole cents: what is taken for the half goes by LT(1) to LT(7)
abbrev pub v_halved : (List ℕ → ℕ) → List ℕ → ℕ
v_halved half b = 2 * (U b - half (lts b))

-- a half of LT in whole cents: where one risk has all of LT, half a cent away from it at most, down or up. Their sum halved is one, and the sum of
-- each one's half is another
abbrev pub WholeHalf : (List ℕ → ℕ) → Type 0
WholeHalf half = (b : List ℕ) → EachRisk (λ i. LT b ≡ lt b i → (LT b ≤ 2 * half (lts b) + 1) × (2 * half (lts b) ≤ LT b + 1))

-- D in hundredths of the half cent, in any way that leaves a whole number of half cents as it is: in half cents, say
abbrev pub KeepsWholeD : (List ℕ → ℕ) → Type 0
KeepsWholeD d = (b : List ℕ) (n : ℕ) → n < 2 ^ 64 → fine_d b ≡ fineness * n → d b ≡ fineness * n

-- where the call accepts, its K is with that V and such a D
abbrev pub LTHalvedInV : (List ℕ → Outcome) → Type 0
LTHalvedInV call =
    (half : List ℕ → ℕ) × (d : List ℕ → ℕ) × WholeHalf half × KeepsWholeD d
    × GivesFigure call 4 (λ b. requirement (U b) (LT b) (v_halved half b) (d b))

-- K with 'an odd LT los[ing] half a cent' in each y(i) and in V
unfoldable pub k_lost : List ℕ → ℕ
k_lost b =
    let i = i_from (ys_halved (λ i m. m / 2) b) (PC b) in
    let d = least (λ d. leb (radicand (fineness * a b) i) (d * d)) in
    requirement (U b) (LT b) (2 * (U b - LT b / 2)) d

-- ---- 'Rounding roots to nearest'

-- the whole number nearest to the root of z quarters. No two are equally near where z is even, as 4 × Q and four times the radicand of D are
unfoldable pub nearest : ℤ → ℕ
nearest z = least (λ r. le_z z (pos ((2 * r + 1) * (2 * r + 1))))

-- a way to take the root of z quarters that leaves a whole root as it is
abbrev pub KeepsWhole : (ℤ → ℕ) → Type 0
KeepsWhole of = (r : ℕ) → r < 2 ^ 64 → of (pos (4 * (r * r))) ≡ r

-- K with I and D worked out in f-ths of the half cent, I's root taken in one way and D's in another
unfoldable pub k_by_roots : ℕ → (of_i of_d : ℤ → ℕ) → List ℕ → ℕ
k_by_roots f of_i of_d b =
    let i = max (of_i (pos (f * f) *ℤ Q4 b)) (f * largest b) + f * (2 * PC b) in
    let d = of_d (pos (4 * radicand (f * a b) i)) in
    pick (eqb (U b) 0) 0 (least (λ k. leb (k_numerator (f * U b) (f * LT b) (f * Vh b) d) (60 * (f * Vh b * (f * k)))))

-- where the call accepts, its K is of an I with its root to the nearest, in half cents, in hundredths of it or between; D's root is taken
-- in any way that leaves a whole one as it is, in the same parts of the half cent
abbrev pub IToNearest : (List ℕ → Outcome) → Type 0
IToNearest call = (f : ℕ) × (of : ℤ → ℕ) × (1 ≤ f) × (f ≤ fineness) × KeepsWhole of × GivesFigure call 4 (k_by_roots f nearest of)

-- the same of D, and I's root in any way that leaves a whole one as it is
abbrev pub DToNearest : (List ℕ → Outcome) → Type 0
DToNearest call = (f : ℕ) × (of : ℤ → ℕ) × (1 ≤ f) × (f ≤ fineness) × KeepsWhole of × GivesFigure call 4 (k_by_roots f of nearest)

-- ---- the operational call

-- a call on volumes and three general figures that meets the operational call's contract
abbrev pub MeetsOperational : (List ℕ → List ℕ → Outcome) → Type 0
MeetsOperational call = (l g : List ℕ) → length g ≡ general_figures → call l g ≡ operational_call l g

-- where the call accepts one territory, its RO is `wrong`. What it does with more of them is left open: whether it rounds within a territory
-- or through all
abbrev pub GivesRO : (List ℕ → List ℕ → Outcome) → (List ℕ → List ℕ → ℕ) → Type 0
GivesRO call wrong =
    (l g vs : List ℕ) → length l ≡ territory_numbers → length g ≡ general_figures → call l g ≡ accepted vs → get_or vs 0 0 ≡ wrong l g

-- volumes m that are those of l but for the prior volume of the pair k, which is larger; in l already, the pair's current volume is not above
-- 120 % of it
pub record MoreBefore (k : ℕ) (l m : List ℕ) : Type 0 where
  pub long : length m ≡ length l
  pub currents : (i : ℕ) → current m i ≡ current l i
  pub priors : (i : ℕ) → ¬ i ≡ k → prior m i ≡ prior l i
  pub shrinks : 5 * current l k ≤ 6 * prior l k
  pub more : prior l k ≤ prior m k

-- a call that nets somewhere, whichever classes against whichever, to whatever amount: it accepts two such lists, and its RO is less with the
-- larger prior volume, so that what one class shrinks by is taken off what others are charged
pub record GrowthNetted (call : List ℕ → List ℕ → Outcome) : Type 0 where
  pub k : ℕ
  pub l : List ℕ
  pub m : List ℕ
  pub g : List ℕ
  pub vs : List ℕ
  pub ws : List ℕ
  pub volumes : MoreBefore k l m
  pub general : length g ≡ general_figures
  pub before : call l g ≡ accepted vs
  pub after : call m g ≡ accepted ws
  pub less : get_or ws 0 0 < get_or vs 0 0

-- RO with growth netted within groups: group c, from 0 to 255, has the pairs that `group` gives it; of a pair that it gives a higher one no growth
-- is charged
unfoldable pub netted_in : (ℕ → ℕ) → List ℕ → List ℕ → ℕ
netted_in group l g =
    let n = length l / 2 in
    let of = λ (f : ℕ → ℕ) (c : ℕ). total (λ k. pick (eqb (group k) c) (factor_of k * f k) 0) n in
    let growth = total (λ c. of (λ k. 5 * current l k) c - of (λ k. 6 * prior l k) c) volume_numbers in
    least (λ r. leb (5 * volume l + growth + 5 * general_requirement g) (operational_denominator * r))

-- RO with each class rounded up
unfoldable pub each_rounded : List ℕ → List ℕ → ℕ
each_rounded l g =
    total (λ k. least (λ r. leb (factor_of k * (5 * current l k + (5 * current l k - 6 * prior l k))) (operational_denominator * r))) (length l / 2)
    + least (λ r. leb (general_requirement g) (ten_thousandths * r))

-- such a call
abbrev pub EachRounded : (List ℕ → List ℕ → Outcome) → Type 0
EachRounded call = GivesRO call each_rounded

-- volume, growth and general over 10,000, with 120 % of a prior volume p in whole cents, `most` p
unfoldable pub over_ten_thousand : (ℕ → ℕ) → List ℕ → List ℕ → ℕ
over_ten_thousand most l g =
    volume l + total (λ k. factor_of k * (current l k - most (prior l k))) (length l / 2) + general_requirement g

-- RO with '120 % of prior' in whole cents
unfoldable pub whole_cents : (ℕ → ℕ) → List ℕ → List ℕ → ℕ
whole_cents most l g = least (λ r. leb (over_ten_thousand most l g) (ten_thousandths * r))

-- such a call, whichever way the cents are rounded: down, up, to the nearest
abbrev pub PriorInWholeCents : (List ℕ → List ℕ → Outcome) → Type 0
PriorInWholeCents call = (most : ℕ → ℕ) × GivesRO call (whole_cents most)
