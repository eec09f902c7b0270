-- The shares call accepts just what rules 7, 8, 9 and 23 leave: what it gives is walked rule by rule. Of what is accepted no margin is cut, so the
-- shares are the fair ones. Assumes nothing.
use Rattle.basics.proofs.Common.{◌≡◌, ℕ, ◌+◌, ◌≤◌, false, List, length, sym, refl, ap, ◌∙◌, subst, pos_of_ne-zero, arith, ltb-false, le-ltb, eqb-false, any_to, none_to, if_false, if_ne, by_test}
use Rattle.basics.proofs.Existence.{none_of}
use Rattle.basics.proofs.Ascents.{list_long}
use Rattle.basics.proofs.Totals.{sum_zero, zero_sum}
use Rattle.refusal.specs.Outcome.{Outcome, Outcome.accepted, Outcome.refused}
use Rattle.refusal.specs.declared.Place.TheVariants.{Nowhere}
use Rattle.refusal.proofs.Acceptance.{RulesFollowed, accepts_just, if_accepted}
use Rattle.sizes.specs.Sizes.{block_numbers, parts}
use Rattle.guideline.specs.Block.{K, AcceptedBlock}
use Rattle.block.specs.Call.{block_call}
use Rattle.block.proofs.Acceptance.{accepts_block}
use Rattle.apportion.specs.Shares.{total, share, shares}
use Rattle.apportion.proofs.Fairness.{fair}
use Rattle.shares.specs.Margins.{k_without, negative, margin}
use Rattle.shares.specs.Call.{after_block, unless_zero, rule23, shares_call}
use Rattle.shares.specs.Accepted.{AcceptedShares, AcceptsShares, RefusesShares, SharesOf, SharesDemand}
use Rattle.shares.proofs.Rules.{refused_call, accepted_call}

module _ (b : List ℕ) where
  abbrev Followed : Outcome → Type 0
  Followed = RulesFollowed (AcceptedShares b) (shares (K b) (margin b))

  after_block_lem : AcceptedBlock b → Followed (rule23 b)
  unfolding RulesFollowed rule23 unless_zero
  after_block_lem a =
      by_test Followed _ _ _ (λ t z. omega arith) λ none.
      by_test Followed _ _ _ (λ t z. omega arith) λ some. (
        refl,
        record {
          block = a;
          none_negative = λ p l h. omega (arith, ltb-false _ _ (none_to (negative b) parts none p l h));
          not_all_zero = λ z. eqb-false _ 0 some (sum_zero (margin b) parts z);
        },
      )

  after_tests : (o : Outcome) → block_call b ≡ o → Followed (after_block o (rule23 b))
  unfolding RulesFollowed after_block
  after_tests (accepted vs) e = after_block_lem ((accepts_block b).accepted_only vs e).1
  after_tests (refused n p) e = λ z. (accepts_block b).never_0 p (e ∙ ap (λ (m : ℕ). refused m p) z)

  followed : Followed (shares_call b)
  unfolding shares_call
  followed = after_tests (block_call b) refl

  -- what holds of an outcome past the block's own tests: refused, it is by 23 with no place
  unfoldable Refused23 : Outcome → Type 0
  Refused23 (accepted vs) = Unit
  Refused23 (refused n p) = (n ≡ 23) × (p ≡ Nowhere)

  refused_23 : Refused23 (rule23 b)
  unfolding Refused23 rule23 unless_zero
  refused_23 = by_test Refused23 _ _ _ (λ t. (omega arith, refl)) (λ none. by_test Refused23 _ _ _ (λ t. (omega arith, refl)) (λ some. tt))

  -- margins that are not all zero have a sum above 0
  not_zero : AcceptedShares b → total (margin b) ≡ 0 → ⊥
  not_zero v z = v.not_all_zero (zero_sum (margin b) parts z)

  passes : length b ≡ block_numbers → AcceptedShares b → shares_call b ≡ accepted (shares (K b) (margin b))
  unfolding rule23 unless_zero
  passes long v =
      let none : any_to (negative b) parts ≡ false = none_of (negative b) parts (λ p l h. le-ltb (K b) (k_without b p) (v.none_negative p l h)) in
      sym (accepted_call b _ (sym ((accepts_block b).accepts long v.block))) ∙ if_false _ none ∙ if_ne _ (not_zero v)

  pub accepts_shares : AcceptsShares b
  accepts_shares = accepts_just _ _ _ _ followed passes

  pub refuses_shares : RefusesShares b
  unfolding Refused23
  refuses_shares =
      record {
        kept = λ n p e. sym (refused_call b n p (sym e));
        refused_by = λ n p ws d e. subst Refused23 (accepted_call b ws (sym d) ∙ e) refused_23;
      }

  -- no margin of what is accepted is cut
  exact : AcceptedShares b → (p : ℕ) → 1 ≤ p → p ≤ parts → margin b p + k_without b p ≡ K b
  unfolding margin
  exact v p l h = omega (arith, v.none_negative p l h)

  ten : length (shares (K b) (margin b)) ≡ parts
  unfolding shares
  ten = list_long (share (K b) (margin b)) parts

  pub shares_demanded : (o : Outcome) → o ≡ shares_call b → SharesDemand b o
  shares_demanded =
      if_accepted (SharesOf b) accepts_shares
      (λ v. record { ten = ten; exact = exact v; fair = fair (K b) (margin b) (pos_of_ne-zero (not_zero v)) })
