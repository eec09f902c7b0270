-- The lines of the rows that were gathered of the blocks that exist are those blocks' lines. Assumes nothing.
use Rattle.basics.proofs.Common.{◌≡◌, ℕ, zero, suc, ◌*◌, Bool, true, false, List, [], ◌∷◌, ◌++◌, length, refl, ap, ◌∙◌, append-nil, add-one, arith, length-append, flat_map-append, ascending, pick}
use Rattle.guideline.proofs.Figures.{figures_long}
use Rattle.sizes.specs.Sizes.{blocks, block_figures}
use Rattle.guideline.specs.Block.{figures_of}
use Rattle.guideline.specs.Buffer.{count}
use Rattle.report_line.specs.declared.Row.{Row}
use Rattle.report_line.specs.Line.{report_line_bytes, rows_in, print_rows}
use Rattle.report_line.proofs.Readback.{rows_append}
use Rattle.sheet_line.specs.declared.Entry.{Entry}
use Rattle.places.specs.Entries.{exists}
use Rattle.report.specs.Rows.{BLK, TOT, items_from, block_rows, table_rows, totals, report_length}
use Rattle.report.proofs.Items.{items_long}
use Rattle.credits.specs.Credits.{after_credit}
use Rattle.sheet_blocks.specs.Blocks.{blocks_to, rows_to}
use Rattle.judgement.specs.Sheet.{sheet_of}
use Rattle.sheet_call.specs.Call.{block_rows_of, report_of}

-- ---- what is gathered of the blocks 1 to n

module _ (exists : ℕ → Bool) (x : ℕ → List ℕ) (f : ℕ → List ℕ) (five : (b : ℕ) → length (f b) ≡ block_figures) where
  abbrev pub numbers : ℕ → List (List ℕ)
  numbers n = ascending exists (λ b. x b ∷ []) n

  abbrev pub rows : ℕ → List (ℕ × List ℕ)
  rows n = ascending exists (λ b. (b, f b) ∷ []) n

  abbrev pub lines : ℕ → List Row
  lines n = ascending exists (λ b. block_rows b (f b)) n

  -- the rows' lines are the blocks' lines
  pub same_lines : (n : ℕ) → table_rows (rows n) ≡ lines n
  unfolding ascending pick
  same_lines zero = refl
  same_lines (suc n) = go (same_lines n) (exists (suc n))
    where
      go : table_rows (rows n) ≡ lines n → (t : Bool)
          → table_rows (rows n ++ pick t ((suc n, f (suc n)) ∷ []) []) ≡ lines n ++ pick t (block_rows (suc n) (f (suc n))) []
      go h true = flat_map-append (λ r. block_rows r.0 r.1) (rows n) _ ∙ rw (h, append-nil) refl
      go h false = flat_map-append (λ r. block_rows r.0 r.1) (rows n) [] ∙ rw h refl

  -- five a block
  lines_long : (n : ℕ) → length (print_rows (lines n)) ≡ report_line_bytes * (block_figures * length (numbers n))
  unfolding ascending rows_in pick
  lines_long zero = refl
  lines_long (suc n) = go (lines_long n) (exists (suc n))
    where
      go : length (print_rows (lines n)) ≡ report_line_bytes * (block_figures * length (numbers n)) → (t : Bool)
          → length (print_rows (lines n ++ pick t (block_rows (suc n) (f (suc n))) []))
          ≡ report_line_bytes * (block_figures * length (numbers n ++ pick t (x (suc n) ∷ []) []))
      go h true =
          let m : length (numbers n ++ (x (suc n) ∷ [])) ≡ suc (length (numbers n)) = length-append (numbers n) (x (suc n) ∷ []) ∙ add-one (length (numbers n)) in
          let b = ap length (rows_append (lines n) (block_rows (suc n) (f (suc n)))) ∙ length-append (print_rows (lines n)) _ in
          rw m (omega (arith, b, h, items_long BLK (suc n) refl 1 (f (suc n)), five (suc n)))
      go h false = rw (append-nil (numbers n), append-nil (lines n)) h

  -- the length of a report that has three totals behind these lines
  pub closed_long : (ts : List ℕ) → length ts ≡ totals → length (print_rows (lines blocks ++ items_from 1 TOT 0 ts)) ≡ report_length (length (numbers blocks))
  closed_long ts h =
      rw (rows_append (lines blocks), length-append (print_rows (lines blocks))) (omega (arith, lines_long blocks, items_long TOT 0 refl 1 ts))

-- ---- the lines of a sheet

-- those of the rows of its blocks
pub table_lines : (es : List Entry) → table_rows (rows_to es blocks) ≡ block_rows_of es
unfolding rows_to block_rows_of
table_lines es = same_lines (exists es) (after_credit es) (λ b. figures_of (after_credit es b)) (λ b. figures_long (after_credit es b)) blocks

pub report_long : (es : List Entry) → length (report_of es) ≡ report_length (count (sheet_of es))
unfolding sheet_of blocks_to block_rows_of
report_long es = closed_long (exists es) (after_credit es) (λ b. figures_of (after_credit es b)) (λ b. figures_long (after_credit es b)) _ refl
