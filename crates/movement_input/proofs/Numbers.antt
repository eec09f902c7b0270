-- The input's numbers, as they are read one after the other. Assumes nothing.
use Rattle.basics.proofs.Common.{◌≡◌, ℕ, zero, suc, ◌+◌, ◌-◌, ◌^◌, ◌<◌, ◌≤◌, List, [], ◌∷◌, ◌++◌, length, get_or, take, set, Some, None, Option, refl, subst, add-one, arith, length-append}
use Rattle.basics.proofs.Common.{length-take, get_or-append-add, dec_lt, pow-le-pow_right, get_or-append, by_test, Wrote, next}
use Rattle.amount.specs.Amount.{limit}
use Rattle.sizes.specs.Sizes.{block_numbers}
use Rattle.field.specs.Field.{field}
use Rattle.field.proofs.Inverse.{field_bound}
use Rattle.line_fields.specs.Words.{amount_columns}
use Rattle.movement_input.specs.Reading.{amount_of, amount_at, number_in, number_at, numbers_to}

-- a line's amount is its number
pub good_number : (s : List ℕ) (i : ℕ) {a : Option ℕ} → a ≡ amount_at s i → {n : ℕ} → a ≡ Some n → n ≡ number_at s i
good_number s i e q = rw (← e, q)

-- ---- the first numbers

pub length_numbers : (s : List ℕ) (n : ℕ) → length (numbers_to s n) ≡ n
unfolding numbers_to
length_numbers s zero = refl
length_numbers s (suc n) = rw (length-append, length_numbers s n, add-one)

-- 14 columns hold no amount above the limit
amount_within : (l : List ℕ) → number_in (amount_of l) ≤ limit
unfolding amount_of
amount_within l = by_test (λ (a : Option ℕ). number_in a ≤ limit) _ _ _ (λ e. go (field (take amount_columns l)) refl) (λ e. omega arith)
  where
    go : (a : Option ℕ) → field (take amount_columns l) ≡ a → number_in a ≤ limit
    go None e = omega arith
    go (Some n) e =
        let few : length (take amount_columns l) ≤ amount_columns = omega (arith, length-take amount_columns l) in
        let room : 10 ^ length (take amount_columns l) ≤ 10 ^ amount_columns = pow-le-pow_right (omega arith) few in
        omega (arith, field_bound (take amount_columns l) n e)

alone : (v m : ℕ) → v ≤ limit → get_or (v ∷ []) m 0 ≤ limit
alone v zero h = h
alone v (suc m) h = omega arith

pub numbers_within : (s : List ℕ) (n k : ℕ) → get_or (numbers_to s n) k 0 ≤ limit
unfolding numbers_to
numbers_within s zero k = omega arith
numbers_within s (suc n) k =
    let p = numbers_to s n in
    let v = number_at s n in
    let long = length_numbers s n in
    elim (dec_lt k n) [
      | yes h ↦ rw (get_or-append p (v ∷ []) 0 k (omega arith)) (numbers_within s n k)
      | no h ↦
          let e : length p + (k - n) ≡ k = omega arith in
          subst (λ (j : ℕ). get_or (p ++ v ∷ []) j 0 ≤ limit) e (rw (get_or-append-add p (v ∷ []) (k - n) 0) (alone v (k - n) (amount_within _)))
    ]

-- a list with the first i of them written over its front
abbrev pub Numbers : List ℕ → List ℕ → ℕ → List ℕ → Type 0
Numbers s l₀ i l = (length l₀ ≡ block_numbers) × Wrote l₀ i (numbers_to s i) l

pub next_number : (s : List ℕ) {l₀ l : List ℕ} {i v : ℕ} → Numbers s l₀ i l → i < block_numbers → v ≡ number_at s i → Numbers s l₀ (i + 1) (set l i v)
unfolding numbers_to
next_number s {l₀} {l} {i} w h e = (w.0, rw (add-one, e) (next w.1 (number_at s i) (omega (arith, w.0))))
