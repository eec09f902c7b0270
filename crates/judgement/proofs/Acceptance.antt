-- What the rules leave of a sheet: its blocks and amounts are accepted, its totals fit; so the sheet of a sound judgement is an accepted sheet,
-- and a refusal's number and place are as they must be. The rules are walked once, by `by_rules`. Assumes nothing.
-- In order: amounts, scalar and credits of a sheet; a block that exists is one that there can be; the rules walked once; a refusal's number and
-- place; the accepted sheet.
use Rattle.basics.proofs.Common.{◌≡◌, ℕ, zero, suc, ◌+◌, ◌*◌, ◌%◌, ◌≤◌, true, false, eqb, ltb, List, [], ◌∷◌, ◌++◌, length, sym, refl, ◌∙◌, subst, append-nil, arith, ltb-false, ltb-true, eqb-true}
use Rattle.basics.proofs.Common.{dec_le, ascending, Each, any_to, pick, sum_to, none_to, if_true, if_false, by_test, never, sum_most}
use Rattle.amount.specs.Amount.{limit}
use Rattle.basics.proofs.Existence.{none_before}
use Rattle.refusal.specs.Outcome.{rule_number, printed, Judging, judging}
use Rattle.refusal.specs.declared.Place.{Place, TheVariants.Line, TheVariants.Nowhere}
use Rattle.sizes.specs.Sizes.{blocks, adjustable_products, largest_scalar}
use Rattle.guideline.specs.Block.{K}
use Rattle.guideline.specs.Operational.{OperationalAmounts}
use Rattle.guideline.specs.Buffer.{sum_k, free, available, AcceptedSheet, most_available}
use Rattle.guideline.proofs.Totals.{sum_more, available_fits}
use Rattle.layout.specs.Columns.{sheet_line_bytes}
use Rattle.sheet_length.specs.Measured.{longest_sheet, after_length}
use Rattle.sheet_length.proofs.Measures.{by_length}
use Rattle.codes.specs.Codes.{most_lines, gross_class, guarantee_class, ceded_class, scalar_class, group_credits_class, dividend_class, Key, row_of}
use Rattle.codes.specs.declared.Code.{Code, TheVariants.Gen, TheVariants.Crd}
use Rattle.codes.proofs.Table.{rows_same, block_most}
use Rattle.sheet_line.specs.declared.Entry.{Entry}
use Rattle.sheet_line.specs.Rules.{AcceptedLine}
use Rattle.places.specs.Entries.{lookup, mark_of, exists, has_line, DistinctKeys}
use Rattle.ledger.specs.Numbers.{dividend_credit, adjustable_credit}
use Rattle.order.specs.Reading.{Reading, Reading.complete, Reading.stopped, reading}
use Rattle.ledger.proofs.Bounds.{first_most, none_unmarked, length_volumes, volumes_most, general_most, scalar_within}
use Rattle.order.proofs.Lines.{all_read, reading_distinct, reading_stopped}
use Rattle.credits.specs.Credits.{after_credit, Covered}
use Rattle.credits.proofs.Acceptance.{all_covered}
use Rattle.sheet_blocks.specs.Blocks.{blocks_to, dividend_barred}
use Rattle.sheet_blocks.proofs.WorkedBlocks.{few_blocks, blocks_accepted}
use Rattle.judgement.specs.Sheet.{sheet_of}
use Rattle.judgement.specs.Judgement.{Judgement, Judgement.turned_away, Judgement.sound, rule13, rule17, rule16, rule12, rule_lines, judgement}

module _ (es : List Entry) (all : Each AcceptedLine es) where
  pub amounts_within : OperationalAmounts (sheet_of es).volumes (sheet_of es).general
  unfolding sheet_of
  amounts_within =
      record {
        short = omega (arith, length_volumes es all);
        currents = λ k. (volumes_most es all k).0;
        priors = λ k. (volumes_most es all k).1;
        gross = general_most es all gross_class;
        guarantee = general_most es all guarantee_class;
        ceded = general_most es all ceded_class;
      }

  pub free_small : free (sheet_of es) ≤ limit * (adjustable_products + 1)
  unfolding sheet_of
  free_small = omega (arith, sum_most (adjustable_credit es) limit (λ c. first_most es all Crd 0 c) adjustable_products, general_most es all group_credits_class)

  pub scalar_ranged : has_line es Gen 0 scalar_class ≡ true → (1 ≤ (sheet_of es).g) × ((sheet_of es).g ≤ largest_scalar)
  unfolding sheet_of
  scalar_ranged h = scalar_within es all (ltb-true _ _ h)

  -- also where there is no scalar's line
  pub scalar_most : (sheet_of es).g ≤ largest_scalar
  unfolding sheet_of
  scalar_most =
      elim (dec_le 1 (lookup mark_of es Gen 0 scalar_class)) [
        | yes h ↦ (scalar_within es all h).1
        | no h ↦ omega (arith, none_unmarked es all Gen 0 scalar_class (omega (arith, h)))
      ]

-- a dividend credit that isn't barred is at most its block's K, or there is none
barred_none : (es : List Entry) → Each AcceptedLine es → (b : ℕ) → dividend_barred es b ≡ false
    → (exists es b ≡ true → dividend_credit es b ≤ K (after_credit es b)) × (exists es b ≡ false → dividend_credit es b ≡ 0)
unfolding dividend_barred
barred_none es all b h = (
  λ t. ltb-false _ _ (sym (if_true _ t) ∙ h),
  λ t. none_unmarked es all Crd b dividend_class (let z : lookup mark_of es Crd b dividend_class ≤ 0 = ltb-false _ _ (sym (if_false _ t) ∙ h) in omega arith),
)

-- where rule 17 bars none, the dividend credits are within the K of their blocks
pub dividends_most : (es : List Entry) → Each AcceptedLine es → (n : ℕ) → any_to (dividend_barred es) n ≡ false → sum_to (dividend_credit es) n ≤ sum_k (blocks_to es n)
unfolding sum_to blocks_to ascending
dividends_most es all zero h = omega arith
dividends_most es all (suc n) h =
    let low = dividends_most es all n (none_before (dividend_barred es) n h) in
    let bs = ascending (exists es) (λ b. after_credit es b ∷ []) n in
    by_test (λ l. sum_to (dividend_credit es) n + dividend_credit es (suc n) ≤ sum_k (bs ++ l)) (exists es (suc n)) _ _
    (λ t. omega (arith, low, sum_more bs (after_credit es (suc n)), (barred_none es all (suc n) (none_to (dividend_barred es) (suc n) h (suc n) (omega arith) (omega arith))).0 t))
    (λ t. rw (append-nil bs) (omega (arith, low, (barred_none es all (suc n) (none_to (dividend_barred es) (suc n) h (suc n) (omega arith) (omega arith))).1 t)))

-- what holds once no credit is above its block's LT(1)
module _ (es : List Entry) (all : Each AcceptedLine es) (covered : Covered es) where
  pub available_small : available (sheet_of es) ≤ most_available
  unfolding sheet_of
  available_small = available_fits (sheet_of es) (blocks_accepted es all covered blocks) (few_blocks es blocks) (amounts_within es all)

-- ---- a block that exists is one that there can be

-- a row that makes a block has no block 0
above_0 : (k : Code) (b : ℕ) → pick (row_of k b).makes_block (row_of k b).lowest 1 ≡ 1
unfolding pick
above_0 = rows_same (λ r. pick r.makes_block r.lowest 1) (λ r. 1) refl

block_within : (k : Code) (b c : ℕ) → (row_of k b).makes_block ≡ true → Key k b c → (1 ≤ b) × (b ≤ blocks)
block_within k b c e v = let l : (row_of k b).lowest ≡ 1 = sym (if_true 1 e) ∙ above_0 k b in (omega arith, omega (arith, block_most k b))

pub exists_within : (es : List Entry) → Each AcceptedLine es → (b : ℕ) → exists es b ≡ true → (1 ≤ b) × (b ≤ blocks)
unfolding exists
exists_within [] all b = λ e. never (cc)
exists_within (l ∷ es) all b =
    let within = exists_within es all.1 b in
    by_test (λ t. t ≡ true → (1 ≤ b) × (b ≤ blocks)) _ _ _
    (λ p.
    by_test (λ t. t ≡ true → (1 ≤ b) × (b ≤ blocks)) _ _ _
    (λ q e. rw (← eqb-true l.block b q) (block_within l.code l.block l.class p all.0.key))
    (λ q. within))
    (λ p. within)

-- ---- the rules in their order, walked once

-- what every rule leaves
pub record Passed (s : List ℕ) (es : List Entry) : Type 0 where
  pub whole : length s % sheet_line_bytes ≡ 0
  pub read : reading s ≡ complete es
  pub lines : Each AcceptedLine es
  pub scalar : has_line es Gen 0 scalar_class ≡ true
  pub covered : Covered es
  pub dividends : any_to (dividend_barred es) blocks ≡ false
  pub credits : free (sheet_of es) ≤ available (sheet_of es)

module _ (s : List ℕ) (P : Judgement → Type 0) (refused : (n : ℕ) (p : Place) → Judging n → printed p ≤ most_lines → P (turned_away n p))
    (passed : (es : List Entry) → Passed s es → P (sound es)) where
  -- a rule that has no place
  nowhere : (n : ℕ) → eqb n 0 ≡ false → eqb n 14 ≡ false → ltb n 100 ≡ true → P (turned_away n Nowhere)
  nowhere n z w h = refused n Nowhere (judging n z w h) (omega arith)

  after_12 : length s % sheet_line_bytes ≡ 0 → (es : List Entry) → reading s ≡ complete es → Each AcceptedLine es → P (rule12 es)
  unfolding rule12 rule16 rule17 rule13
  after_12 w es r all =
      by_test P _ _ _
      (λ t.
      by_test P _ _ _ (λ c. nowhere 16 refl refl refl) λ c.
      by_test P _ _ _ (λ d. nowhere 17 refl refl refl) λ d.
      by_test P _ _ _ (λ u. nowhere 13 refl refl refl) λ u.
      passed es (record { whole = w; read = r; lines = all; scalar = t; covered = all_covered es all c; dividends = d; credits = ltb-false _ _ u }))
      (λ t. nowhere 12 refl refl refl)

  after_lines : length s ≤ longest_sheet → length s % sheet_line_bytes ≡ 0 → (o : Reading) → reading s ≡ o → P (rule_lines o)
  unfolding rule_lines
  after_lines h m (stopped es n i) e = let w = reading_stopped s es n i e in refused n (Line i) w.0 (omega (arith, w.1))
  after_lines h m (complete es) e = after_12 m es e (rw e at (all_read s))

  -- what holds of each refusal by a rule and of each sheet that every rule lets pass holds of the judgement
  pub by_rules : P (judgement s)
  unfolding judgement
  by_rules = by_length s (λ l. P (after_length l turned_away (rule_lines (reading s)))) (λ r. refused (rule_number r.0) r.1) (λ h m. after_lines h m (reading s) refl)

module _ (s : List ℕ) where
  unfoldable Gives : Judgement → Type 0
  Gives j = (es : List Entry) → j ≡ sound es → Passed s es

  pub sound_passed : (es : List Entry) → judgement s ≡ sound es → Passed s es
  unfolding Gives
  sound_passed = by_rules s Gives (λ n p g l es e. never (cc)) (λ es h es' e. let q : es ≡ es' = cc in subst (Passed s) q h)

  -- the rule and the place of a judgement that turns a sheet away
  unfoldable Fits : Judgement → Type 0
  Fits j = (n : ℕ) (p : Place) → j ≡ turned_away n p → Judging n × (printed p ≤ most_lines)

  -- never 0, never 14, and number and place fit the columns of a REF line
  pub numbered : (n : ℕ) (p : Place) → judgement s ≡ turned_away n p → Judging n × (printed p ≤ most_lines)
  unfolding Fits
  numbered =
      by_rules s Fits
      (λ n p g l n' p' e. let a : n ≡ n' = cc in let b : p ≡ p' = cc in (subst Judging a g, subst (λ (q : Place). printed q ≤ most_lines) b l))
      (λ es h n p e. never (cc))

-- the lines of a sound judgement have distinct keys
pub sound_distinct : (s : List ℕ) (es : List Entry) → judgement s ≡ sound es → DistinctKeys es
sound_distinct s es e = rw (sound_passed s es e).read at (reading_distinct s)

-- a sound judgement's sheet is an accepted sheet
pub sound_accepted : (s : List ℕ) (es : List Entry) → judgement s ≡ sound es → AcceptedSheet (sheet_of es)
unfolding sheet_of
sound_accepted s es e =
    let p = sound_passed s es e in
    record {
      blocks_pass = blocks_accepted es p.lines p.covered blocks;
      few = few_blocks es blocks;
      amounts = amounts_within es p.lines;
      g_low = (scalar_ranged es p.lines p.scalar).0;
      g_high = (scalar_ranged es p.lines p.scalar).1;
      credits_within = (dividends_most es p.lines blocks p.dividends, p.credits);
    }
