-- The block call accepts just what rules 7, 8 and 9 leave. What it gives is walked rule by rule; where all numbers are known to pass, no rule
-- finds one. Assumes nothing.
use Rattle.basics.proofs.Common.{◌≡◌, ℕ, ◌≤◌, false, List, [], ◌∷◌, ◌++◌, length, get_or, sym, refl, ◌∙◌, subst, arith, ltb-false, le-ltb, eqb-true, Each, each_at, sought_none, by_test, values_same}
use Rattle.basics.proofs.Common.{is_values, values}
use Rattle.refusal.specs.Outcome.{Outcome, Outcome.accepted}
use Rattle.refusal.proofs.Acceptance.{RulesFollowed, accepts_just, if_accepted}
use Rattle.amount.specs.Amount.{limit}
use Rattle.amount.proofs.Rule7.{within_passes, by_rule7}
use Rattle.sizes.specs.Sizes.{risks, block_numbers}
use Rattle.guideline.specs.Block.{AcceptedBlock, lt, figures_of}
use Rattle.accuracy.proofs.Demand.{block_demand}
use Rattle.figures.specs.RootSteps.{steps_of}
use Rattle.figures.proofs.JointRadicand.{few_steps_both}
use Rattle.block.specs.Call.{lt_above, first_lt_above, rule8, rule9, block_call}
use Rattle.block.specs.Accepted.{AcceptsBlock, BlockDemand3, FewSteps}
use Rattle.block.proofs.Rules.{passed_8, passed_9, acceptable}

-- what rule 7 lets pass
abbrev Fits : ℕ → Type 0
Fits x = x ≤ limit

-- no rule finds anything in a block that they leave
module _ (b : List ℕ) (v : AcceptedBlock b) where
  -- all 17 numbers, in order
  within : length b ≡ block_numbers → (k : ℕ) → get_or b k 0 ≤ limit
  unfolding values
  within long = each_at Fits 0 (omega arith) b (subst (Each Fits) (sym (is_values 0 block_numbers b long)) (omega arith))

  -- rule 9 at each of the seven pairs
  pairs : values (lt_above b) risks ≡ values (λ i. false) risks
  unfolding values
  pairs =
      let w = v.lt_within in
      λ j. le-ltb _ _ w.0 j ∷ le-ltb _ _ w.1 j ∷ le-ltb _ _ w.2 j ∷ le-ltb _ _ w.3 j
      ∷ le-ltb _ _ w.4 j ∷ le-ltb _ _ w.5 j ∷ le-ltb _ _ w.6 j ∷ []

  none_above_ir : first_lt_above b ≡ risks
  unfolding first_lt_above
  none_above_ir =
      sought_none (lt_above b) risks risks (omega arith)
      (record { within = omega arith; before = values_same (lt_above b) (λ i. false) risks pairs })

  passes : length b ≡ block_numbers → block_call b ≡ accepted (figures_of b ++ steps_of b)
  unfolding block_call
  passes long = within_passes b (rule8 b) (within long) ∙ passed_8 b v.lt_seven ∙ passed_9 b (omega (arith, none_above_ir))

module _ (b : List ℕ) where
  abbrev Followed : Outcome → Type 0
  Followed = RulesFollowed (AcceptedBlock b) (figures_of b ++ steps_of b)

  after_8 : ((k : ℕ) → get_or b k 0 ≤ limit) → lt b 7 ≡ 0 → Followed (rule9 b)
  unfolding RulesFollowed rule9
  after_8 r7 r8 = by_test Followed _ _ _ (λ t z. omega arith) (λ r9. (refl, acceptable b r7 r8 (ltb-false _ _ r9)))

  followed : Followed (block_call b)
  unfolding RulesFollowed block_call rule8
  followed =
      by_rule7 b _ Followed (λ p z. omega arith) λ r7.
      by_test Followed _ _ _ (λ r8. after_8 r7 (eqb-true _ _ r8)) (λ t z. omega arith)

  pub accepts_block : AcceptsBlock b
  accepts_block = accepts_just _ _ _ _ followed (λ long v. passes b v long)

  pub block_demanded : (o : Outcome) → o ≡ block_call b → BlockDemand3 b o
  block_demanded = if_accepted _ accepts_block (λ v. (refl, block_demand b v))

  pub block_few_steps : (o : Outcome) → o ≡ block_call b → FewSteps o
  unfolding steps_of figures_of
  block_few_steps = if_accepted _ accepts_block (λ v. omega (arith, few_steps_both b v))
