-- The margins as a loop finds them: none of the first is negative, each is listed, and they are added up. None is above K, so ten of them fit a
-- word. Assumes nothing.
use Rattle.basics.proofs.Common.{◌≡◌, ℕ, suc, ◌+◌, ◌-◌, ◌*◌, ◌^◌, ◌<◌, ◌≤◌, true, false, List, length, set, ◌∙◌, add-one, arith, le-ltb, lt-ltb, any_to, sum_to, Listed, listed_start, listed_more}
use Rattle.basics.proofs.Common.{listed_all, sum_most, sum_step}
use Rattle.basics.proofs.Existence.{none_yet, next_decides, goes_on}
use Rattle.amount.specs.Amount.{limit}
use Rattle.sizes.specs.Sizes.{parts}
use Rattle.guideline.specs.Block.{K, AcceptedBlock}
use Rattle.guideline.proofs.Figures.{u_fits, k_high}
use Rattle.shares.specs.Margins.{k_without, negative, margin}
use Rattle.shares.specs.Steps.{AllMargins}

-- what holds when the first i margins are found
pub record FoundTo (b l : List ℕ) (sum i : ℕ) : Type 0 where
  pub listed : Listed (margin b) parts l i
  pub none : any_to (negative b) i ≡ false
  pub sum_is : sum ≡ sum_to (margin b) i

module _ (b : List ℕ) where
  pub k_fits : AcceptedBlock b → K b ≤ 10 * limit
  k_fits a = omega (arith, k_high b a, u_fits b a)

  margin_most : (p : ℕ) → margin b p ≤ K b
  unfolding margin
  margin_most p = omega arith

  -- the sum of any of them fits a word
  pub sum_fits : AcceptedBlock b → (i : ℕ) → i ≤ parts → sum_to (margin b) i < 2 ^ 63
  sum_fits a i h = omega (arith, sum_most (margin b) (10 * limit) (λ p. omega (arith, margin_most p, k_fits a)) i)

  pub found_start : (l : List ℕ) → length l ≡ parts → FoundTo b l 0 0
  unfolding sum_to
  found_start l e = record { listed = listed_start _ _ _ e; none = none_yet _; sum_is = omega arith }

  module _ (k less : ℕ) (e : k ≡ K b) (i : ℕ) (f : less ≡ k_without b (i + 1)) (l : List ℕ) (sum : ℕ) (s : FoundTo b l sum i) (h : i < parts) where
    less_is : less ≡ k_without b (suc i)
    less_is = rw add-one at f

    -- the next one is negative
    pub found_negative : k < less → any_to (negative b) parts ≡ true
    found_negative t =
        let d : any_to (negative b) (suc i) ≡ true = next_decides (negative b) i s.none ∙ lt-ltb (K b) (k_without b (suc i)) (omega (arith, less_is)) in
        goes_on (negative b) (suc i) parts (omega arith) d

    -- or it is not
    module _ (t : less ≤ k) where
      next_margin : k - less ≡ margin b (i + 1)
      unfolding margin
      next_margin = λ j. e j - f j

      pub next_sum : sum + (k - less) ≡ sum_to (margin b) (i + 1)
      next_sum = omega (arith, s.sum_is, next_margin, sum_step (margin b) i)

      pub found_more : FoundTo b (set l i (k - less)) (sum + (k - less)) (i + 1)
      found_more =
          record {
            listed = listed_more _ _ _ _ _ h next_margin s.listed;
            none = rw add-one (next_decides (negative b) i s.none ∙ le-ltb (K b) (k_without b (suc i)) (omega (arith, less_is)));
            sum_is = next_sum;
          }

  pub found_all : (l : List ℕ) (sum i : ℕ) → parts ≤ i → FoundTo b l sum i → AllMargins b l sum
  found_all l sum i h s =
      let e : i ≡ parts = omega (arith, s.listed.within) in
      record {
        none_negative = rw e at s.none;
        each_is = listed_all _ _ _ _ h s.listed;
        sum_is = rw e at s.sum_is;
      }
