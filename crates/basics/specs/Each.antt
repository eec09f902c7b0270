-- A property of every element of a list. Assumes nothing.
use Rattle.std.specs.Prelude.{List, [], ◌∷◌}

-- `P` holds of each element
abbrev pub Each {ℓ} : {A : Type ℓ} → (A → Type 0) → List A → Type 0
Each P [] = Unit {0}
Each P (x ∷ xs) = P x × Each P xs
