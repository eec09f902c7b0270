-- A line as it is stored in the other sort of sheet: each amount in two stretches, the whole as a copy with other letters over it and both amounts
-- put back. Assumes nothing.
use Rattle.basics.proofs.Common.{◌≡◌, ℕ, Bool, List, [], ◌∷◌, ◌++◌, map, length, take, drop, set, replicate, refl, ◌∙◌, put_mid, is_values, values}
use Rattle.key_columns.specs.Key.{columns, code_columns}
use Rattle.layout.specs.Columns.{sheet_line_bytes, byte_at, first_columns, second_columns}
use Rattle.line_fields.specs.Words.{amount_columns}
use Rattle.scaled_line.specs.Moved.{other_case, zeros, keeps_amounts, shifted, moved_amount, moved_line}
use Rattle.scaled_line.specs.declared.Scale.{Scale, TheVariants.Cents, TheVariants.Thousands}

-- ---- an amount

module _ (l out : List ℕ) (h : length l ≡ amount_columns) (k : length out ≡ amount_columns) {xs ys : List ℕ} where
  pub spaces_stored : xs ≡ replicate zeros 32 → ys ≡ take 9 l → put_mid 5 9 (put_mid 0 5 out xs) ys ≡ shifted Cents l
  unfolding values
  spaces_stored x y = rw (x, y, is_values 0 14 l h, is_values 0 14 out k) refl

  pub zeros_stored : xs ≡ take 9 (drop 5 l) → ys ≡ replicate zeros 48 → put_mid 9 5 (put_mid 0 9 out xs) ys ≡ shifted Thousands l
  unfolding values
  zeros_stored x y = rw (x, y, is_values 0 14 l h, is_values 0 14 out k) refl

-- ---- a line

-- three letters stored over it
abbrev with_letters : List ℕ → ℕ → ℕ → ℕ → List ℕ
with_letters s x y z = set (set (set s 0 x) 1 y) 2 z

module _ (s : List ℕ) (h : length s ≡ sheet_line_bytes) where
  three : map other_case (code_columns s) ≡ other_case (byte_at 1 s) ∷ other_case (byte_at 2 s) ∷ other_case (byte_at 3 s) ∷ []
  unfolding values
  three = rw (is_values 0 sheet_line_bytes s h) refl

  module _ (x y z : ℕ) (ys : List ℕ) (i : length ys ≡ amount_columns) where
    -- with the first amount put back, the second still stands as it was
    pub second_stands : second_columns (put_mid 10 14 (with_letters s x y z) ys) ≡ second_columns s
    unfolding values
    second_stands = rw (is_values 0 sheet_line_bytes s h, is_values 0 14 ys i) refl

    both_put : (zs : List ℕ) → length zs ≡ amount_columns → put_mid 25 14 (put_mid 10 14 (with_letters s x y z) ys) zs
        ≡ (x ∷ y ∷ z ∷ []) ++ columns 4 10 s ++ ys ++ columns 25 25 s ++ zs ++ columns 40 40 s
    unfolding values
    both_put zs j = rw (is_values 0 sheet_line_bytes s h, is_values 0 14 ys i, is_values 0 14 zs j) refl

    pub line_stored : (d : Scale) {kept : Bool} {zs : List ℕ} → length zs ≡ amount_columns
        → x ≡ other_case (byte_at 1 s) → y ≡ other_case (byte_at 2 s) → z ≡ other_case (byte_at 3 s) → kept ≡ keeps_amounts s
        → ys ≡ moved_amount d kept (first_columns s) → zs ≡ moved_amount d kept (second_columns s)
        → put_mid 25 14 (put_mid 10 14 (with_letters s x y z) ys) zs ≡ moved_line d s
    unfolding moved_line
    line_stored d {kept} {zs} j p q r t m n = both_put zs j ∙ rw (p, q, r, m, n, t, three) refl
