-- The least whole number whose value under a function that never falls reaches n: its law in inequalities, and how a
-- number that code found is shown to be it. Assumes nothing.
use Rattle.std.proofs.Common.{◌≡◌, ℕ, zero, suc, ◌+◌, ◌-◌, ◌*◌, ◌^◌, ◌<◌, ◌≤◌, leb, refl, ap, mul-le-mul, mul-le-mul_left, arith, le→leb, leb→le}
use native.Mathlib.Decide.{dec_le}
use Rattle.basics.specs.Least.{least_from, least}
use Rattle.basics.proofs.Halving.{least_law}

pub record LeastOf (n : ℕ) (f : ℕ → ℕ) (x : ℕ) : Type 0 where
  pub reaches : n ≤ f x
  pub first : (m : ℕ) → n ≤ f m → x ≤ m

abbrev pub Rising : (ℕ → ℕ) → Type 0
Rising f = (m k : ℕ) → m ≤ k → f m ≤ f k

pub least_of : (n : ℕ) (f : ℕ → ℕ) → Rising f → (w : ℕ) → w < 2 ^ 64 → n ≤ f w → LeastOf n f (least (λ r. leb n (f r)))
least_of n f rises w lt h =
    let l = least_law (λ r. leb n (f r)) (λ m k le t. le→leb n (f k) (omega (arith, rises m k le, leb→le n (f m) t))) w lt (le→leb n (f w) h) in
    record { reaches = leb→le n _ l.passes; first = λ m k. l.first m (le→leb n (f m) k) }

-- what is less falls short
pub least_short : {n : ℕ} {f : ℕ → ℕ} {x : ℕ} → LeastOf n f x → (m : ℕ) → m < x → f m < n
least_short {n} {f} l m lt = elim (dec_le n (f m)) [ yes h ↦ omega (arith, l.first m h) | no h ↦ omega arith ]

-- a quotient rounded up is less than one too much
pub least_ceil : (c n x : ℕ) → 0 < c → LeastOf n (λ r. c * r) x → c * x < n + c
least_ceil c n zero pos l = omega arith
least_ceil c n (suc x) pos l = omega (arith, least_short l x (omega arith))

-- z reaches n, and one less falls short: z is the least
pub least_eq : (n : ℕ) (f : ℕ → ℕ) → Rising f → (z : ℕ) → z < 2 ^ 64 → n ≤ f z → (0 < z → f (z - 1) < n) → least (λ r. leb n (f r)) ≡ z
least_eq n f rises z lt h short =
    let x = least (λ r. leb n (f r)) in
    let l = least_of n f rises z lt h in
    elim (dec_le z x) [
      | yes k ↦ omega (arith, l.first z h)
      | no k ↦ omega (arith, short (omega arith), l.reaches, rises x (z - 1) (omega arith))
    ]

-- the root that code found, r² ≥ n > (r − 1)²
pub root_eq : (n r : ℕ) → r < 2 ^ 64 → n ≤ r * r → (0 < r → (r - 1) * (r - 1) < n) → least (λ d. leb n (d * d)) ≡ r
root_eq n r lt h short = least_eq n (λ d. d * d) (λ m k le. mul-le-mul le le) r lt h short

-- the quotient that code found, n ≤ c × k < n + c
pub ceil_eq : (n c k : ℕ) → k < 2 ^ 64 → n ≤ c * k → c * k < n + c → least (λ x. leb n (c * x)) ≡ k
ceil_eq n c k lt h up =
    least_eq n (λ x. c * x) (λ m l le. mul-le-mul_left c le) k lt h
    (λ p.
    let e : k ≡ k - 1 + 1 = omega arith in
    omega (arith, ap (λ (z : ℕ). c * z) e))

-- it computes on numerals of 100 bits
computed : least (λ r. leb 1267650600228229401496703205377 (r * r)) ≡ 1125899906842625
unfolding least_from
computed = refl
