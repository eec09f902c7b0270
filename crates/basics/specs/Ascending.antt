-- What is gathered of the numbers that pass a test, ascending. Document 01, the sheet and the report: 'Blocks ascend'. Where all pass, the list
-- of a function's values from 1 on. Assumes nothing.
use Rattle.std.specs.Prelude.{Bool, true, List, [], ◌∷◌, ◌++◌, ℕ, zero, suc}
use Rattle.basics.specs.Pick.{pick}

-- what f gives for each of the numbers 1 to n that pass, ascending
unfoldable pub ascending {ℓ} : {A : Type ℓ} → (ℕ → Bool) → (ℕ → List A) → ℕ → List A
ascending passes f zero = []
ascending passes f (suc n) = ascending passes f n ++ pick (passes (suc n)) (f (suc n)) []

-- f 1, .., f n: every number passes, and each gives its value
abbrev pub list_to : (ℕ → ℕ) → ℕ → List ℕ
list_to f n = ascending (λ k. true) (λ k. f k ∷ []) n
