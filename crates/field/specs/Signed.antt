-- A number field that may be below 0. Document 02, #111: the number of a report line, 'a minus right before a fall'. Bytes are numbers: a space is
-- 32, a minus 45. Assumes nothing.
use Rattle.std.specs.Prelude.{◌≡◌, List, [], ◌∷◌, ◌++◌, ℕ, suc, ◌+◌, ◌*◌, ◌^◌, ◌≤◌, ◌<◌, eqb, ℤ, pos, negsuc, get_or, replicate}
use Rattle.basics.specs.Pick.{pick}
use Rattle.field.specs.Field.{decimal}

-- a field with a minus right before its digits: in the last of the spaces before them, which no space follows
unfoldable pub with_minus : List ℕ → List ℕ
with_minus [] = []
with_minus (b ∷ bs) = pick (eqb (get_or bs 0 0) 32) (b ∷ with_minus bs) (45 ∷ bs)

-- a whole number right-justified in w columns
unfoldable pub signed : ℕ → ℤ → List ℕ
signed w (pos n) = decimal w n
signed w (negsuc n) = with_minus (decimal w (suc n))

-- what w columns hold of −n, where there is a column for the minus: spaces, the minus, and n in as many columns as it has digits. proofs/Minus
-- shows it (`minus_before`)
pub record MinusBefore (w n : ℕ) (l : List ℕ) : Type 0 where
  pub spaces : ℕ
  pub digits : ℕ
  pub columns : spaces + (1 + digits) ≡ w
  pub filled : (10 ^ digits ≤ 10 * n) × (n < 10 ^ digits)
  pub text : l ≡ replicate spaces 32 ++ (45 ∷ decimal digits n)
