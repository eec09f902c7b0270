-- Of two squares the smaller has the smaller root. Assumes nothing.
use Rattle.std.proofs.Common.{ℕ, ◌*◌, ◌<◌, ◌≤◌, mul-le-mul, arith}
use native.Mathlib.Decide.{dec_le, dec_lt}

pub lt_of_squares : (a b : ℕ) → a * a < b * b → a < b
lt_of_squares a b h = elim (dec_le b a) [ yes k ↦ omega (arith, mul-le-mul k k) | no k ↦ omega arith ]

pub le_of_squares : (a b : ℕ) → a * a ≤ b * b → a ≤ b
le_of_squares a b h = elim (dec_lt b a) [ yes l ↦ omega (arith, mul-le-mul l l) | no l ↦ omega arith ]
