-- A list, read number by number. Assumes nothing.
use Rattle.basics.proofs.Common.{◌≡◌, ℕ, zero, suc, ◌+◌, List, [], ◌∷◌, length, drop, get_or, sym, ap, ◌∙◌, arith}
use Rattle.std.proofs.Math.Seq.{drop-cons}
use Rattle.std.proofs.lemmas.List.{drop_all}

-- n numbers of xs, from the one behind i others on
unfoldable pub numbers_from : List ℕ → ℕ → ℕ → List ℕ
numbers_from xs i zero = []
numbers_from xs i (suc n) = get_or xs i 0 ∷ numbers_from xs (suc i) n

-- as many as are left are what is left
pub numbers_left : (xs : List ℕ) (i n : ℕ) → i + n ≡ length xs → numbers_from xs i n ≡ drop i xs
unfolding numbers_from
numbers_left xs i zero h = sym (drop_all i xs (omega arith))
numbers_left xs i (suc n) h = ap (λ (l : List ℕ). get_or xs i 0 ∷ l) (numbers_left xs (suc i) n (omega arith)) ∙ sym (drop-cons xs i 0 (omega arith))
