-- The result that the fluctuation call gives, after document 02, #104: 'The result is B times the factor, rounded up to the cent'.
-- The exact result is in Exact, and proofs/Demand shows that this is the least whole number at or above it.
-- Assumes nothing.
use Rattle.std.specs.Prelude.{Bool, ◌&&◌, ℕ, ◌-◌, ◌*◌, leb, ltb}
use Rattle.basics.specs.Pick.{pick}
use Rattle.basics.specs.Least.{least}
use Rattle.fluctuation.specs.Rows.{Row, base_of}

-- 20², for a first number in twentieths, times 100, for a base in cents
abbrev pub scale : ℕ
scale = 40000

-- r cents are at least B × (first / 20 + second / √(base / 100)), the base in cents: 20 × r has an excess over first × B, and that excess is
-- at least 20 × B × second / √(base / 100). Squared and multiplied by the base there is no root and no fraction
unfoldable pub reaches : (first second base b r : ℕ) → Bool
reaches first second base b r =
    let excess = 20 * r - first * b in
    let c = b * second in
    leb (first * b) (20 * r) && leb (scale * (c * c)) (excess * excess * base)

-- 'Up to the threshold the factor is 1'; above it the least whole number of cents that reaches
unfoldable pub factored_requirement : Row → (b face : ℕ) → ℕ
factored_requirement w b face =
    pick (ltb (100 * w.threshold) (base_of w b face)) (least (reaches w.first w.second (base_of w b face) b)) b
