-- How a stretch of bytes comes to hold a line of two labels. Assumes nothing.
use Rattle.basics.proofs.Common.{◌≡◌, ℕ, ◌+◌, List, [], ◌∷◌, ◌++◌, length, get_or, set, refl, put_mid, is_values, values}
use Rattle.key_columns.specs.Key.{key_bytes}
use Rattle.needs.specs.Listing.{listed_bytes, label_of, listed_line}
use Rattle.needs.specs.declared.Label.{Label}
use Rattle.needs.proofs.Labels.{length_label}

listed_framed : (f g h : ℕ → ℕ)
    → set (set (put_mid (key_bytes + 1) key_bytes (put_mid 0 key_bytes (values f listed_bytes) (values g key_bytes)) (values h key_bytes)) key_bytes 32) 19 10
    ≡ values g key_bytes ++ (32 ∷ []) ++ values h key_bytes ++ (10 ∷ [])
unfolding values
listed_framed f g h = refl

pub listed_filled : (out : List ℕ) (l m : Label) (xs ys : List ℕ) → length out ≡ listed_bytes → xs ≡ label_of l → ys ≡ label_of m
    → set (set (put_mid (key_bytes + 1) key_bytes (put_mid 0 key_bytes out xs) ys) key_bytes 32) 19 10 ≡ listed_line l m
unfolding listed_line
listed_filled out l m xs ys h p q =
    let i : length xs ≡ key_bytes = rw p (length_label l) in
    let j : length ys ≡ key_bytes = rw q (length_label m) in
    rw (← p, ← q, is_values 0 listed_bytes out h, is_values 0 key_bytes xs i, is_values 0 key_bytes ys j)
    (listed_framed (λ k. get_or out k 0) (λ k. get_or xs k 0) (λ k. get_or ys k 0))
