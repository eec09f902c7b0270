-- Rule 23 after the block's own tests, by what the code finds of the margins; past it the shares. Assumes nothing.
use Rattle.basics.proofs.Common.{◌≡◌, ℕ, ◌≤◌, true, List, sym, ap, ◌∙◌, pos_of_ne-zero, arith, any_to, if_true, if_false, if_eq, if_ne, sum_same}
use Rattle.refusal.specs.Outcome.{Outcome, Outcome.accepted, Outcome.refused}
use Rattle.refusal.specs.declared.Place.{Place, TheVariants.Nowhere}
use Rattle.sizes.specs.Sizes.{parts}
use Rattle.guideline.specs.Block.{AcceptedBlock, K}
use Rattle.block.specs.Call.{block_call}
use Rattle.apportion.specs.Shares.{value_of_part, total, shares}
use Rattle.apportion.specs.Steps.{Shareable}
use Rattle.apportion.proofs.Fairness.{of_part}
use Rattle.apportion.proofs.Parts.{shares_alike}
use Rattle.shares.specs.Margins.{negative, margin}
use Rattle.shares.specs.Call.{after_block, unless_zero, rule23, shares_call}
use Rattle.shares.specs.Steps.{AllMargins}
use Rattle.shares.proofs.Margins.{k_fits, sum_fits}

-- ---- the block's own tests

module _ (b : List ℕ) where
  pub refused_call : (n : ℕ) (p : Place) → refused n p ≡ block_call b → refused n p ≡ shares_call b
  unfolding shares_call after_block
  refused_call n p e = ap (λ (o : Outcome). after_block o (rule23 b)) e

  pub accepted_call : (vs : List ℕ) → accepted vs ≡ block_call b → rule23 b ≡ shares_call b
  unfolding shares_call after_block
  accepted_call vs e = ap (λ (o : Outcome). after_block o (rule23 b)) e

-- ---- rule 23

pub some_negative : (b : List ℕ) → any_to (negative b) parts ≡ true → rule23 b ≡ refused 23 Nowhere
unfolding rule23
some_negative b t = if_true _ t

module _ (b each : List ℕ) (sum : ℕ) (m : AllMargins b each sum) where
  none_negative : rule23 b ≡ unless_zero b
  unfolding rule23
  none_negative = if_false _ m.none_negative

  pub all_zero_lem : sum ≡ 0 → rule23 b ≡ refused 23 Nowhere
  unfolding unless_zero
  all_zero_lem z = none_negative ∙ if_eq _ (sym m.sum_is ∙ z)

  margin_at : (p : ℕ) → 1 ≤ p → p ≤ parts → value_of_part each p ≡ margin b p
  margin_at p l h = ap (λ (x : List ℕ). value_of_part x p) (m.each_is) ∙ of_part (margin b) parts p l h

  module _ (k : ℕ) (e : k ≡ K b) (n : sum ≡ 0 → ⊥) where
    pub shareable : AcceptedBlock b → Shareable k (value_of_part each) sum
    shareable a =
        record {
          small = omega (arith, k_fits b a);
          sum_is = m.sum_is ∙ sym (sum_same _ _ parts margin_at);
          some = pos_of_ne-zero n;
          fits = omega (arith, m.sum_is, sum_fits b a parts (omega arith));
        }

    shared : (out : List ℕ) → out ≡ shares k (value_of_part each) → out ≡ shares (K b) (margin b)
    shared out h = h ∙ ap (λ (x : ℕ). shares x (value_of_part each)) e ∙ shares_alike (K b) (value_of_part each) (margin b) margin_at

    pub answered : (out : List ℕ) → out ≡ shares k (value_of_part each) → accepted out ≡ rule23 b
    unfolding unless_zero
    answered out h =
        let z : total (margin b) ≡ 0 → ⊥ = λ q. n (m.sum_is ∙ q) in
        ap accepted (shared out h) ∙ sym (none_negative ∙ if_ne _ z)
