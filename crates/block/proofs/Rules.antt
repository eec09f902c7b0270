-- Rules 7, 8 and 9 of the block call: what each gives where its test finds something, and where it finds nothing. Assumes nothing.
use Rattle.basics.proofs.Common.{◌≡◌, ℕ, ◌+◌, ◌*◌, ◌<◌, ◌≤◌, true, false, List, ◌++◌, length, get_or, Some, None, Option, MatchOption, HoldsAt, sym, ◌∙◌, arith, ltb-false, AllWithin, FoundAt}
use Rattle.basics.proofs.Common.{none_passes, sought_found, sought_none, if_eq, if_ne, if_lt, if_ge}
use Rattle.std.specs.List.{range_with_len}
use Rattle.std.proofs.lemmas.List.FromFn.{get_or-range_with_len}
use Rattle.refusal.specs.Outcome.Outcome.{accepted, refused}
use Rattle.refusal.specs.declared.Place.TheVariants.{Position}
use Rattle.amount.specs.Amount.{limit, first_above}
use Rattle.amount.proofs.Rule7.{refused_7, passed_7}
use Rattle.sizes.specs.Sizes.{risks, last_lt_position}
use Rattle.guideline.specs.Block.{AcceptedBlock, lt, figures_of}
use Rattle.guideline.proofs.Figures.{accepted_of_lem}
use Rattle.figures.specs.RootSteps.{steps_of}
use Rattle.block.specs.Call.{lt_above, first_lt_above, rule9, rule8, block_call}

-- the seven pairs, counted from 0, as a search goes over them
abbrev pub pairs : List ℕ
pairs = range_with_len 0 risks

pair_at : (k d : ℕ) → k < risks → get_or pairs k d ≡ k
pair_at k d h = omega (arith, get_or-range_with_len 0 risks k d h)

module _ (b : List ℕ) where
  abbrev Within : ℕ → Type 0
  Within i = lt_above b i ≡ false

  -- what such a search finds: none, or the first pair whose LT is above its IR
  pub first_pair :
      (r : Option ℕ)
      → MatchOption r (AllWithin Within pairs 0 risks)
      (λ i. (lt_above b i ≡ true) × (k : ℕ) × (k < risks) × HoldsAt (λ j. j ≡ i) pairs k × AllWithin Within pairs 0 k)
      → FoundAt risks (first_lt_above b) r
  unfolding first_lt_above
  first_pair None a =
      let before = λ (k : ℕ) (h : k < risks). rw (pair_at k 0 h) at (a k 0 (omega arith) h) in
      omega (arith, sought_none (lt_above b) risks risks (omega arith) (record { within = omega arith; before = before }))
  first_pair (Some i) (t, k, h, e, a) =
      let same : k ≡ i = sym (pair_at k 0 h) ∙ e 0 in
      let before = λ (j : ℕ) (l : j < i). rw (pair_at j 0 (omega arith)) at (a j 0 (omega arith) (omega arith)) in
      (sym (sought_found (lt_above b) risks i (omega arith) t (record { within = omega arith; before = before })), omega arith)

  pub turned_by_7 : {r : ℕ} → (r ≡ first_above b) × (r < length b) → block_call b ≡ refused 7 (Position r)
  unfolding block_call
  turned_by_7 h = refused_7 b (rule8 b) h

  pub past_7 : length b ≤ first_above b → block_call b ≡ rule8 b
  unfolding block_call
  past_7 h = passed_7 b (rule8 b) h

  pub refused_8 : (lt b 7 ≡ 0 → ⊥) → rule8 b ≡ refused 8 (Position last_lt_position)
  unfolding rule8
  refused_8 n = if_ne _ n

  pub passed_8 : lt b 7 ≡ 0 → rule8 b ≡ rule9 b
  unfolding rule8
  passed_8 z = if_eq _ z

  pub refused_9 : {s : ℕ} → (s ≡ first_lt_above b) × (s < risks) → rule9 b ≡ refused 9 (Position (2 * s + 1))
  unfolding rule9
  refused_9 (e, h) = rw e (if_lt _ (rw e at h))

  pub passed_9 : risks ≤ first_lt_above b → rule9 b ≡ accepted (figures_of b ++ steps_of b)
  unfolding rule9
  passed_9 h = if_ge _ h

  pub acceptable : ((k : ℕ) → get_or b k 0 ≤ limit) → lt b 7 ≡ 0 → risks ≤ first_lt_above b → AcceptedBlock b
  unfolding first_lt_above
  acceptable a z h = accepted_of_lem b a z (λ i l. ltb-false _ _ (none_passes (lt_above b) risks h i l))
