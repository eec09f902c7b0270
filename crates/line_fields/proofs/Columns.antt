-- Fourteen columns as a word, from the words of the first four, of the next two and of the last eight. Assumes nothing.
use Rattle.basics.proofs.Common.{◌≡◌, ℕ, ◌+◌, ◌*◌, ◌^◌, List, length, get_or, arith, w64, is_values, values}
use Rattle.std.specs.Int.{from_be_bytes, w16, w32}
use Rattle.line_fields.specs.Words.{word}

-- the n bytes from i on
abbrev pub bytes : List ℕ → ℕ → ℕ → List ℕ
unfolding values
bytes s i n = values (λ k. get_or s (i + k) 0) n

pub joined : (s : List ℕ) → length s ≡ 14 → (four two eight : ℕ) → four ≡ from_be_bytes w32 (bytes s 0 4) → two ≡ from_be_bytes w16 (bytes s 4 2)
    → eight ≡ from_be_bytes w64 (bytes s 6 8) → (four * 65536 + two) * 2 ^ 64 + eight ≡ word s
unfolding word values
joined s h four two eight p q r = rw (is_values 0 14 s h) (omega (arith, p, q, r))
