-- An entry of a list by its number, counted from 1 as the papers do. Assumes nothing.
use Rattle.std.specs.Prelude.{List, ℕ, zero, suc, get_or}

-- entry number i; where there is none, d
abbrev pub numbered : {A : Type 0} → List A → ℕ → A → A
numbered xs zero d = d
numbered xs (suc i) d = get_or xs i d
