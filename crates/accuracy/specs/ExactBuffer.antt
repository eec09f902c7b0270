-- The exact buffer of section 11.3, after document 01, 'The exact values', and the allowance of the reported one. Assumes nothing.
use Rattle.std.specs.Prelude.{◌≡◌, List, [], ◌∷◌, ℕ, ◌+◌, ◌*◌, pos, ◌*ℤ◌}
use Rattle.std.proofs.Common.{sym, arith}
use Rattle.integer.proofs.Difference.{times_diff}
use Rattle.sizes.specs.Sizes.{ten_thousandths, fineness, block_allowance}
use Rattle.guideline.specs.Operational.{operational_numerator, operational_denominator}
use Rattle.accuracy.specs.Fraction.{Fraction, numerator, ◌≤ᶠ◌, ◌<ᶠ◌, whole, ratio, plus, ≤ᶠ-<ᶠ_trans}
use Rattle.accuracy.specs.Exact.{Fits, k_at}
use Rattle.guideline.specs.Buffer.{Sheet, count, GFD, free}

-- 'some choice of a fitting d in each block'
abbrev pub Choice : List (List ℕ) → Type 0
Choice [] = Unit {0}
Choice (b ∷ bs) = (d : Fraction) × Fits b d × Choice bs

-- the sum of K's fractions at the chosen d
abbrev pub sum_at : (bs : List (List ℕ)) → Choice bs → Fraction
sum_at [] c = whole 0 0
sum_at (b ∷ bs) c = plus (k_at b c.0) (sum_at bs c.2)

-- 'The exact operational figure is its fraction before rounding'
abbrev pub operational_at : Sheet → Fraction
operational_at s = ratio (pos (operational_numerator s.volumes s.general)) operational_denominator (omega arith)

-- 'the bracket of the buffer, unrounded', at the chosen d
abbrev pub bracket_at : (s : Sheet) → Choice s.blocks → Fraction
bracket_at s c = plus (sum_at s.blocks c) (plus (operational_at s) (whole (GFD s) (s.CRᵢ + free s)))

-- g times it
abbrev pub buffer_at : (s : Sheet) → Choice s.blocks → Fraction
buffer_at s c =
    let x = bracket_at s c in
    record {
      numerator⁺ = s.g * x.numerator⁺;
      numerator⁻ = s.g * x.numerator⁻;
      denominator = ten_thousandths * x.denominator;
      positive = omega (arith, x.positive);
    }

-- its numerator in ℤ, over 10,000 times the bracket's denominator
pub numerator_buffer : (s : Sheet) (c : Choice s.blocks) → numerator (buffer_at s c) ≡ pos s.g *ℤ numerator (bracket_at s c)
numerator_buffer s c = sym (times_diff s.g (bracket_at s c).numerator⁺ (bracket_at s c).numerator⁻)

-- 'A number is strictly below the exact buffer when it is below g times the bracket of the buffer, unrounded, for some choice of a
-- fitting d in each block; otherwise it is at or above'
pub record StrictlyBelowBuffer (s : Sheet) (x : Fraction) : Type 0 where
  pub choice : Choice s.blocks
  pub below : x <ᶠ buffer_at s choice

-- what is at most a fraction strictly below the exact buffer is strictly below it too
pub buffer_downwards : (s : Sheet) (x y : Fraction) → x ≤ᶠ y → StrictlyBelowBuffer s y → StrictlyBelowBuffer s x
buffer_downwards s x y h k = record { choice = k.choice; below = ≤ᶠ-<ᶠ_trans x y (buffer_at s k.choice) h k.below }

-- what the allowance is over: g in ten-thousandths, times the hundredths of a cent
abbrev pub millionths : ℕ
millionths = ten_thousandths * fineness

-- 'the buffer's allowance becomes g × (1.01 × n + 1) + 1 cents' (document 02, #109), in millionths of a cent
abbrev pub allowance : Sheet → ℕ
allowance s = s.g * (block_allowance * count s + fineness) + millionths

-- x cents less the allowance
abbrev pub less_allowance : Sheet → ℕ → Fraction
less_allowance s x = record { numerator⁺ = millionths * x; numerator⁻ = allowance s; denominator = millionths; positive = omega arith }
