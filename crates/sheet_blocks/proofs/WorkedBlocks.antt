-- The blocks worked out one after the other: none yet, one that doesn't exist, one that does; and that the sums fit. Assumes nothing.
-- In order: the blocks that exist, few and accepted; a row put behind others; two stretches of blocks; none yet; block n, after those before it.
use Rattle.basics.proofs.Common.{◌≡◌, ℕ, ◌+◌, ◌-◌, ◌*◌, ◌<◌, ◌≤◌, Bool, true, false, ltb, List, [], ◌∷◌, ◌++◌, map, length, take, drop, set, sym, refl, ap, ◌∙◌, arith, length-append, drop-drop}
use Rattle.basics.proofs.Common.{drop-set-lt, map-append, ascending, Each, any_to, pick, sum_to, each_ascending, if_true, if_false, sum_next, sum_most}
use Rattle.std.proofs.lemmas.List.{take_more_set}
use Rattle.basics.proofs.Ascents.{few, one_more, none_more}
use Rattle.basics.proofs.Existence.{any_next}
use Rattle.amount.specs.Amount.{limit}
use Rattle.sizes.specs.Sizes.{blocks}
use Rattle.guideline.specs.Block.{K, figures_of, AcceptedBlock}
use Rattle.guideline.specs.Buffer.{sum_k}
use Rattle.guideline.proofs.Figures.{u_fits, k_high}
use Rattle.guideline.proofs.Totals.{sum_more, sum_fits}
use Rattle.figures.specs.Parts.{figure_list, numbered_figures, figures_are}
use Rattle.figures.specs.declared.Figures.{Figures}
use Rattle.figures.specs.declared.NumberedFigures.{NumberedFigures}
use Rattle.sheet_line.specs.declared.Entry.{Entry}
use Rattle.sheet_line.specs.Rules.{AcceptedLine}
use Rattle.codes.specs.Codes.{dividend_class}
use Rattle.codes.specs.declared.Code.TheVariants.{Crd}
use Rattle.places.specs.Entries.{has_line, exists}
use Rattle.ledger.specs.Numbers.{dividend_credit}
use Rattle.ledger.proofs.Bounds.{first_most}
use Rattle.credits.specs.Credits.{after_credit, Covered}
use Rattle.sheet_blocks.specs.Blocks.{blocks_to, rows_to, dividend_barred}
use Rattle.sheet_blocks.specs.Steps.{join, WorkedOut, RestKept}
use Rattle.sheet_blocks.specs.declared.BlockTotals.{BlockTotals}
use Rattle.credits.proofs.Acceptance.{block_accepted}

-- of n blocks at most n exist
pub few_blocks : (es : List Entry) (n : ℕ) → length (blocks_to es n) ≤ n
unfolding blocks_to
few_blocks es n = few (exists es) (after_credit es) n

-- those that exist are accepted once no credit is above its block's LT(1)
pub blocks_accepted : (es : List Entry) → Each AcceptedLine es → Covered es → (n : ℕ) → Each AcceptedBlock (blocks_to es n)
unfolding blocks_to
blocks_accepted es all covered n = each_ascending (exists es) (λ b. after_credit es b ∷ []) AcceptedBlock n (λ b l h t. (block_accepted es all covered b, tt))

-- a row put behind those of k blocks
pub row_put : (rows : List NumberedFigures) (k : ℕ) (r : NumberedFigures) → k < length rows
    → map numbered_figures (take (k + 1) (set rows k r)) ≡ map numbered_figures (take k rows) ++ (numbered_figures r ∷ [])
row_put rows k r h = ap (map numbered_figures) (take_more_set rows k r h) ∙ map-append numbered_figures (take k rows) (r ∷ [])

-- and behind it the table is as it was
pub row_behind : (rows : List NumberedFigures) (k : ℕ) (r : NumberedFigures) → RestKept (k + 1) rows (set rows k r)
row_behind rows k r = drop-set-lt (k + 1) rows k r (omega arith)

-- what is the same from a place on is so from any further one
pub kept_further : (x y : List NumberedFigures) {k m : ℕ} → k ≤ m → RestKept k y x → RestKept m y x
kept_further x y {k} {m} h e =
    let n : k + (m - k) ≡ m = omega arith in
    rw n at (sym (drop-drop (m - k) k x) ∙ ap (drop (m - k)) e ∙ drop-drop (m - k) k y)

-- what is known of two stretches of blocks, where one of the two is barred
pub joined_is : (w more : BlockTotals) (b : Bool) → b ≡ pick w.barred true more.barred
    → ◌≡◌ {A = BlockTotals} (record { count = w.count + more.count; sum = w.sum + more.sum; dividends = w.dividends + more.dividends; barred = b }) (join w more)
joined_is w more b e = rw e

pub no_block : (es : List Entry) (rows : List NumberedFigures) → WorkedOut es 0 (record { count = 0; sum = 0; dividends = 0; barred = false }) rows
unfolding blocks_to rows_to ascending sum_k sum_to any_to
no_block es rows = record { count = refl; sum = refl; dividends = refl; barred = refl; front = refl }

-- block n, after those before it
module _ (es : List Entry) {n : ℕ} {w : BlockTotals} {rows : List NumberedFigures} (from : 1 ≤ n) (before : WorkedOut es (n - 1) w rows) where
  abbrev row : ℕ → List (ℕ × List ℕ)
  row b = (b, figures_of (after_credit es b)) ∷ []

  -- the dividend credits with that of block n
  dividends_next : (d : ℕ) → d ≡ dividend_credit es n → w.dividends + d ≡ sum_to (dividend_credit es) n
  dividends_next d e = (λ i. before.dividends i + e i) ∙ sym (sum_next (dividend_credit es) n from)

  -- whether one is barred
  barred_next : (t : Bool) → t ≡ dividend_barred es n → pick w.barred true t ≡ any_to (dividend_barred es) n
  barred_next t e = (λ i. pick (before.barred i) true (e i)) ∙ sym (any_next (dividend_barred es) n from)

  pub absent : exists es n ≡ false → (d : ℕ) (t : Bool) → d ≡ dividend_credit es n → t ≡ has_line es Crd n dividend_class
      → WorkedOut es n (join w (record { count = 0; sum = 0; dividends = d; barred = t })) rows
  unfolding blocks_to rows_to dividend_barred
  absent e d t p q =
      let m = sym (none_more (exists es) (λ b. after_credit es b ∷ []) n from e) in
      let z : w.count + 0 ≡ w.count = omega arith in
      record {
        count = omega (arith, before.count, ap length m);
        sum = omega (arith, before.sum, ap sum_k m);
        dividends = dividends_next d p;
        barred = barred_next t (q ∙ sym (if_false _ e));
        front = rw z before.front ∙ sym (none_more (exists es) row n from e);
      }

  -- what is counted and summed with block n fits
  pub dividends_fit : n ≤ blocks → Each AcceptedLine es → w.dividends + dividend_credit es n ≤ limit * blocks
  dividends_fit to all =
      omega (
        arith,
        dividends_next (dividend_credit es n) refl,
        sum_most (dividend_credit es) limit (λ b. first_most es all Crd b dividend_class) n,
      )

  pub fits : n ≤ blocks → Each AcceptedLine es → Covered es → (w.count < blocks) × (w.sum + K (after_credit es n) ≤ 10 * limit * blocks)
  fits to all covered =
      omega (
        arith,
        before.count,
        before.sum,
        few_blocks es (n - 1),
        sum_fits (blocks_to es (n - 1)) (blocks_accepted es all covered (n - 1)),
        k_high (after_credit es n) (block_accepted es all covered n),
        u_fits (after_credit es n) (block_accepted es all covered n),
      )

  -- its row is put behind those before
  pub present : w.count < length rows → exists es n ≡ true → (f : Figures) (d : ℕ) → figure_list f ≡ figures_of (after_credit es n)
      → d ≡ dividend_credit es n
      → WorkedOut es n (join w (record { count = 1; sum = f.k; dividends = d; barred = ltb f.k d }))
      (set rows w.count (record { block = n; figures = f }))
  unfolding blocks_to rows_to dividend_barred
  present room e f d p c =
      let m = one_more (exists es) (λ b. after_credit es b ∷ []) n from e in
      let r = one_more (exists es) row n from e in
      let bs = ascending (exists es) (λ b. after_credit es b ∷ []) (n - 1) in
      let q : f.k ≡ K (after_credit es n) = (figures_are f _ p).4 in
      record {
        count = rw m (omega (arith, before.count, length-append bs (after_credit es n ∷ [])));
        sum = rw m (omega (arith, before.sum, sum_more bs (after_credit es n), q));
        dividends = dividends_next d c;
        barred = barred_next (ltb f.k d) ((λ i. ltb (q i) (c i)) ∙ sym (if_true _ e));
        front = row_put rows w.count _ room ∙ rw (before.front, r, p);
      }
