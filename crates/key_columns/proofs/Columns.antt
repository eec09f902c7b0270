-- Columns 1 to 9: the code and the two numbers put into a stretch of nine bytes, with spaces between; and read back off it. Assumes nothing.
use Rattle.basics.proofs.Common.{◌≡◌, ℕ, ◌<◌, List, length, get_or, set, Some, refl, arith, length-append, put_mid, is_values, values}
use Rattle.field.specs.Field.{field, leading_digits, decimal}
use Rattle.field.proofs.WrittenColumns.{length_decimal}
use Rattle.field.proofs.Inverse.{read_back}
use Rattle.key_columns.specs.Key.{code_columns, block_columns, class_columns, key_bytes, key}

-- code, block and class put into their columns, each behind the space that is stored before it
abbrev framed : List ℕ → List ℕ → List ℕ → List ℕ → List ℕ
framed l code xs ys = put_mid 7 2 (set (put_mid 4 2 (set (put_mid 0 3 l code) 3 32) xs) 6 32) ys

filled : (f g : ℕ → ℕ) (block class : ℕ) → framed (values f key_bytes) (values g 3) (decimal 2 block) (decimal 2 class) ≡ key (values g 3) block class
unfolding values decimal leading_digits key
filled f g block class = refl

module _ (code : List ℕ) (block class : ℕ) (three : length code ≡ 3) where
  pub key_filled : (l : List ℕ) {zs xs ys : List ℕ} → length l ≡ key_bytes → zs ≡ code → xs ≡ decimal 2 block → ys ≡ decimal 2 class
      → framed l zs xs ys ≡ key code block class
  key_filled l h e x y = rw (e, x, y, is_values 0 key_bytes l h, is_values 0 3 code three) (filled (λ i. get_or l i 0) (λ i. get_or code i 0) block class)

  -- nine bytes, where the code has three
  pub length_key : length (key code block class) ≡ key_bytes
  unfolding key
  length_key = simp (length-append, length_decimal, three)

  -- code, block and class
  pub key_read : block < 100 → class < 100 → (code_columns (key code block class) ≡ code)
      × (field (block_columns (key code block class)) ≡ Some block) × (field (class_columns (key code block class)) ≡ Some class)
  unfolding values decimal leading_digits key
  key_read h k = rw (is_values 0 3 code three) (refl, read_back 2 block (omega arith) h, read_back 2 class (omega arith) k)
