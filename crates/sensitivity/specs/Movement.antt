-- Document 02, #111, 'One input moved': 'Actuaries ask how far a late correction can swing the result'. A block with one IR(i) raised by t cents,
-- and what is said of its exact and its reported K. proofs/Movement proves it of every accepted block (`block_moves`). Assumes nothing.
use Rattle.std.specs.Prelude.{◌≡◌, List, ℕ, ◌+◌, ◌-◌, ◌*◌, ◌<◌, ℤ, pos, ◌-ℤ◌, set}
use Rattle.std.proofs.Common.{sym, ap, ◌∙◌, arith}
use Rattle.std.proofs.Math.IntN.{sub_ℕ}
use Rattle.guideline.specs.Block.{ir, K}
use Rattle.accuracy.specs.Fraction.{Fraction, numerator}
use Rattle.accuracy.specs.Exact.{StrictlyBelowK}
use Rattle.integer.proofs.Integer.{as_diff, diff_eq}
use Rattle.integer.proofs.Difference.{diff_less}

-- 'if one IR(i) is raised by t cents, all else kept'
unfoldable pub raised : List ℕ → ℕ → ℕ → List ℕ
raised b i t = set b (2 * i - 2) (ir b i + t)

-- 'that number less t'
abbrev pub less : Fraction → ℕ → Fraction
less x t =
    record {
      numerator⁺ = x.numerator⁺;
      numerator⁻ = x.numerator⁻ + t * x.denominator;
      denominator = x.denominator;
      positive = x.positive;
    }

-- in ℤ: t times the denominator is taken off the numerator
pub numerator_less : (x : Fraction) (t : ℕ) → numerator (less x t) ≡ numerator x -ℤ pos (t * x.denominator)
numerator_less x t =
    let p = x.numerator⁺ in
    let q = x.numerator⁻ in
    let n = t * x.denominator in
    sym (ap (λ (z : ℤ). sub_ℕ p q -ℤ z) (as_diff n) ∙ diff_less p q n 0 ∙ diff_eq (p + 0) (q + n) (less x t).numerator⁺ (less x t).numerator⁻ (omega arith))

-- of a block b and the raised block c: how far the exact and the reported K move
pub record Movement (b c : List ℕ) (t : ℕ) : Type 0 where
  -- 'the exact K moves by at most t either way (if a number is strictly below either of the two exact K, that number less t is strictly
  -- below the other)'
  pub exact_falls : (x : Fraction) → StrictlyBelowK b x → StrictlyBelowK c (less x t)
  pub exact_rises : (x : Fraction) → StrictlyBelowK c x → StrictlyBelowK b (less x t)
  -- 'and the reported K by less than t + 2'
  pub reported_rises : K c < K b + t + 2
  pub reported_falls : K b < K c + t + 2
