-- A number of two digits to any base. Assumes nothing.
use Rattle.std.proofs.Common.{◌≡◌, ℕ, ◌+◌, ◌*◌, ◌/◌, ◌%◌, ◌<◌, sym, ap, ◌∙◌}
use lib.Arith.{digits_div, digits_mod}

-- two digits are known from their number
pub two_digits : (N q r d x : ℕ) → r < N → x < N → q * N + r ≡ d * N + x → (q ≡ d) × (r ≡ x)
two_digits N q r d x h k e =
    (sym (digits_div q h) ∙ ap (λ (y : ℕ). y / N) e ∙ digits_div d k, sym (digits_mod q h) ∙ ap (λ (y : ℕ). y % N) e ∙ digits_mod d k)
