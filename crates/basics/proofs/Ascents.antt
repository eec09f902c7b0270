-- What is gathered of the numbers that pass a test, ascending: one number more, how many there are, and what holds of each. The list of a
-- function's values from 1 on: one value more, the value at a place, and a loop that writes them. Assumes nothing.
use Rattle.std.proofs.Common.{◌≡◌, ℕ, zero, suc, ◌+◌, ◌-◌, ◌*◌, ◌<◌, ◌≤◌, Bool, true, false, List, [], ◌∷◌, ◌++◌, length, get_or, set, sym, refl, ap, ◌∙◌, append-nil, add-one, arith, length-append}
use native.Mathlib.Decide.{dec_le}
use lib.ListN.{get_or-append}
use lib.Seq.{get_or_at}
use Rattle.basics.specs.Pick.{pick}
use Rattle.basics.specs.Each.{Each}
use Rattle.basics.specs.Ascending.{ascending, list_to}
use Rattle.basics.proofs.Picks.{if_true, if_false, by_test}
use Rattle.basics.proofs.Elements.{each_append, each_picked}
use Rattle.basics.proofs.Stretches.{Wrote, nothing, front, next, all_written, from_front}

-- what n adds to the numbers before it, where it passes and where it doesn't
module _ {ℓ} {A : Type ℓ} (passes : ℕ → Bool) (f : ℕ → List A) where
  added : (n : ℕ) → 1 ≤ n → ascending passes f n ≡ ascending passes f (n - 1) ++ pick (passes n) (f n) []
  unfolding ascending
  added n h = grind arith

  pub one_more : (n : ℕ) → 1 ≤ n → passes n ≡ true → ascending passes f n ≡ ascending passes f (n - 1) ++ f n
  one_more n h t = added n h ∙ ap (λ (l : List A). ascending passes f (n - 1) ++ l) (if_true _ t)

  pub none_more : (n : ℕ) → 1 ≤ n → passes n ≡ false → ascending passes f n ≡ ascending passes f (n - 1)
  none_more n h t = added n h ∙ ap (λ (l : List A). ascending passes f (n - 1) ++ l) (if_false _ t) ∙ append-nil _

  -- what holds of all that f gives for a number that passes holds of each that is gathered
  pub each_ascending : (P : A → Type 0) (n : ℕ) → ((b : ℕ) → 1 ≤ b → b ≤ n → passes b ≡ true → Each P (f b)) → Each P (ascending passes f n)
  unfolding ascending
  each_ascending P zero h = tt
  each_ascending P (suc n) h =
      each_append P (ascending passes f n) _ (each_ascending P n (λ b l k. h b l (omega arith)))
      (each_picked P _ _ (h (suc n) (omega arith) (omega arith)))

  -- of lists that none is longer than k
  pub most_ascending : (k : ℕ) → ((b : ℕ) → length (f b) ≤ k) → (n : ℕ) → length (ascending passes f n) ≤ k * n
  unfolding ascending
  most_ascending k h zero = omega arith
  most_ascending k h (suc n) =
      let s = most_ascending k h n in
      by_test (λ l. length (ascending passes f n ++ l) ≤ k * suc n) (passes (suc n)) (f (suc n)) []
      (λ t. rw length-append (omega (arith, s, h (suc n))))
      (λ t. rw length-append (omega (arith, s)))

-- of n numbers at most n pass
pub few {ℓ} : {A : Type ℓ} (passes : ℕ → Bool) (f : ℕ → A) (n : ℕ) → length (ascending passes (λ b. f b ∷ []) n) ≤ n
few passes f n = omega (arith, most_ascending passes (λ b. f b ∷ []) 1 (λ b. omega arith) n)

-- ---- a function's values from 1 on

module _ (f : ℕ → ℕ) where
  -- as a loop writes
  list_step : (i : ℕ) → list_to f (i + 1) ≡ list_to f i ++ (f (i + 1) ∷ [])
  unfolding ascending pick
  list_step i = rw add-one refl

  pub list_long : (n : ℕ) → length (list_to f n) ≡ n
  unfolding ascending pick
  list_long zero = refl
  list_long (suc n) = length-append (list_to f n) (f (suc n) ∷ []) ∙ omega (arith, list_long n)

  pub list_at : (n i : ℕ) → i < n → get_or (list_to f n) i 0 ≡ f (suc i)
  unfolding ascending pick
  list_at zero i h = absurd (omega arith)
  list_at (suc n) i h =
      elim (dec_le n i) [
        | yes l ↦ let e : i ≡ n = omega arith in rw e (get_or_at (list_to f n) (f (suc n)) [] 0 n (list_long n))
        | no l ↦ get_or-append (list_to f n) (f (suc n) ∷ []) 0 i (omega (arith, list_long n)) ∙ list_at n i (omega arith)
      ]

pub list_same : (f g : ℕ → ℕ) (n : ℕ) → ((k : ℕ) → 1 ≤ k → k ≤ n → f k ≡ g k) → list_to f n ≡ list_to g n
unfolding ascending pick
list_same f g zero e = refl
list_same f g (suc n) e = λ i. list_same f g n (λ k l h. e k l (omega arith)) i ++ (e (suc n) (omega arith) (omega arith) i ∷ [])

-- a loop that writes them: the first i of n places hold f 1, .., f i
pub record Listed (f : ℕ → ℕ) (n : ℕ) (l : List ℕ) (i : ℕ) : Type 0 where
  pub long : length l ≡ n
  pub within : i ≤ n
  pub wrote : Wrote l i (list_to f i) l

module _ (f : ℕ → ℕ) (n : ℕ) (l : List ℕ) where
  pub listed_start : length l ≡ n → Listed f n l 0
  unfolding ascending
  listed_start e = record { long = e; within = omega arith; wrote = nothing l }

  pub listed_more : (i v : ℕ) → i < n → v ≡ f (i + 1) → Listed f n l i → Listed f n (set l i v) (i + 1)
  listed_more i v h e s =
      let w = next s.wrote v (omega (arith, s.long)) in
      let t = w.long ∙ s.long in
      let p : list_to f i ++ (v ∷ []) ≡ list_to f (i + 1) = (λ j. list_to f i ++ (e j ∷ [])) ∙ sym (list_step f i) in
      record { long = t; within = omega arith; wrote = rw add-one (from_front (rw add-one at (front w ∙ p)) (omega (arith, t))) }

  pub listed_all : (i : ℕ) → n ≤ i → Listed f n l i → l ≡ list_to f n
  listed_all i h s = grind (arith, all_written)
