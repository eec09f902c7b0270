-- The radicand of D as the code makes it, and the room that it leaves: with a beside it I is at most V. I and D as they are reported. Assumes
-- nothing.
use Rattle.basics.proofs.Common.{◌≡◌, ℕ, ◌+◌, ◌-◌, ◌*◌, ◌/◌, ◌^◌, ◌<◌, ◌≤◌, leb, List, sym, ap, ◌∙◌, arith, least, ceil_eq}
use Rattle.sizes.specs.Sizes.{fineness, most_steps}
use Rattle.guideline.specs.Block.{AcceptedBlock, A, fine_i, a, radicand, fine_d, reported, I, D}
use Rattle.guideline.proofs.Bounds.{radicand_most}
use Rattle.guideline.proofs.Figures.{v_fits, fine_i_high, fine_d_high}
use Rattle.root.specs.Steps.{steps}
use Rattle.insurance.specs.Radicand.{radicand_i}
use Rattle.insurance.proofs.Radicand.{largest_v, largest_radicand, in_steps, few_steps_i}
use Rattle.figures.specs.RootSteps.{radicand_d}

pub joint_small : (a i : ℕ) → a + i ≤ largest_v → radicand a i ≤ largest_radicand
joint_small a i h = radicand_most a i largest_v h

-- with A as the code has it
pub joint_radicand : (b : List ℕ) (x i : ℕ) → x ≡ A b → i ≡ fine_i b → radicand (fineness * (2 * x)) i ≡ radicand_d b
unfolding radicand_d a
joint_radicand b x i e f = λ j. radicand (fineness * (2 * e j)) (f j)

pub joint_found : (b : List ℕ) (x i d : ℕ) → x ≡ A b → i ≡ fine_i b → d ≡ least (λ r. leb (radicand (fineness * (2 * x)) i) (r * r)) → d ≡ fine_d b
unfolding fine_d a
joint_found b x i d e f g = g ∙ (λ j. least (λ r. leb (radicand (fineness * (2 * e j)) (f j)) (r * r)))

module _ (b : List ℕ) (h : AcceptedBlock b) where
  joint_most : fineness * a b + fine_i b ≤ largest_v
  joint_most = omega (arith, v_fits b h, fine_i_high b h)

  pub joint_fits : fineness * (2 * A b) + fine_i b ≤ largest_v
  unfolding a
  joint_fits = joint_most

  -- 'These roots take at most 58 steps'
  pub few_steps_both : (steps (radicand_i b) ≤ most_steps) × (steps (radicand_d b) ≤ most_steps)
  unfolding radicand_d
  few_steps_both = (few_steps_i b h, in_steps (radicand_d b) (joint_small _ _ joint_most))

  pub fine_fit : (fine_i b < 2 ^ 63) × (fine_d b < 2 ^ 63)
  fine_fit = omega (arith, v_fits b h, fine_i_high b h, fine_d_high b h)

-- ---- half cents, the least at or above

pub reported_is : (x : ℕ) → x < 2 ^ 63 → (x + (fineness - 1)) / fineness ≡ reported x
unfolding reported
reported_is x h = sym (ceil_eq x fineness ((x + (fineness - 1)) / fineness) (omega arith) (omega arith) (omega arith))

pub i_found : (b : List ℕ) (x r : ℕ) → x ≡ fine_i b → r ≡ reported x → r ≡ I b
unfolding I
i_found b x r e f = f ∙ ap reported e

pub d_found : (b : List ℕ) (x r : ℕ) → x ≡ fine_d b → r ≡ reported x → r ≡ D b
unfolding D
d_found b x r e f = f ∙ ap reported e
