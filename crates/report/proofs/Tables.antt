-- The lines of rows: written row after row, and the totals behind them. Assumes nothing.
use Rattle.basics.proofs.Common.{◌≡◌, ℕ, ◌+◌, ◌-◌, ◌*◌, ◌<◌, ◌≤◌, List, [], ◌∷◌, ◌++◌, map, length, get_or, take, drop, sym, refl, ap, ◌∙◌, append-nil, arith, length-append, length-drop, put_mid}
use Rattle.basics.proofs.Common.{flat_map-append, map-append, Wrote, nothing, lent_part}
use Rattle.std.proofs.lemmas.List.{take_more}
use Rattle.sizes.specs.Sizes.{block_figures}
use Rattle.figures.specs.Parts.{figure_list, numbered_figures}
use Rattle.figures.specs.declared.NumberedFigures.{NumberedFigures}
use Rattle.report_line.specs.declared.Row.{Row}
use Rattle.report_line.specs.Line.{report_line_bytes, rows_in, print_rows}
use Rattle.report_line.proofs.Readback.{rows_append}
use Rattle.report.specs.Rows.{BLK, TOT, items_from, block_rows, table_rows, report_bytes, report_length, totals}
use Rattle.report.proofs.Items.{items_long}

-- the bytes of a block's lines
abbrev pub block_bytes : ℕ
block_bytes = report_line_bytes * block_figures

-- the lines of rows as the code has them
abbrev lines_of : List NumberedFigures → List Row
lines_of rows = table_rows (map numbered_figures rows)

-- ---- row after row

-- the first i rows are written
pub record Rows (rows : List NumberedFigures) (i : ℕ) (l₀ l : List ℕ) : Type 0 where
  pub some : i ≤ length rows
  pub front : Wrote l₀ (block_bytes * i) (print_rows (lines_of (take i rows))) l

pub no_row : (rows : List NumberedFigures) (l : List ℕ) → Rows rows 0 l l
unfolding rows_in
no_row rows l = record { some = omega arith; front = nothing l }

-- one row more, put back as the code lends its stretch
module _ {rows : List NumberedFigures} {i : ℕ} {l₀ l : List ℕ} (R : Rows rows i l₀ l) (more : i < length rows) where
  -- the row at i
  abbrev row : NumberedFigures
  row = get_or rows i (record { block = 0; figures = record { i = 0; d = 0; u = 0; lt = 0; k = 0 } })

  pub next_row : {ys : List ℕ} → block_bytes * i + block_bytes ≤ length l → ys ≡ print_rows (block_rows row.block (figure_list row.figures))
      → Rows rows (i + 1) l₀ (put_mid (block_bytes * i) (block_bytes * i + block_bytes - block_bytes * i) l ys)
  next_row {ys} h e =
      let a : block_bytes * (i + 1) ≡ block_bytes * i + block_bytes = omega arith in
      let n : length ys ≡ block_bytes = ap length e ∙ items_long BLK row.block refl 1 (figure_list row.figures) in
      let t : take (i + 1) rows ≡ take i rows ++ (row ∷ []) = take_more rows i _ more in
      let p : print_rows (lines_of (take (i + 1) rows)) ≡ print_rows (lines_of (take i rows)) ++ ys =
      rw (t, map-append, flat_map-append, append-nil, rows_append, e) refl in
      record { some = omega arith; front = rw (a, p) (lent_part R.front block_bytes ys (omega (arith, R.front.long)) n) }

-- ---- the totals

module _ (rows : List NumberedFigures) (ts : List ℕ) (three : length ts ≡ totals) (l₀ l : List ℕ) (long : length l ≡ length l₀)
    (fits : report_length (length rows) ≤ length l₀)
    (e : l ≡ print_rows (lines_of rows) ++ drop (report_line_bytes * (block_figures * length rows)) l₀) where
  written : Wrote l₀ (report_line_bytes * (block_figures * length rows)) (print_rows (lines_of rows)) l
  written =
      let k = report_line_bytes * (block_figures * length rows) in
      let c = sym long ∙ ap length e ∙ length-append (print_rows (lines_of rows)) (drop k l₀) in
      record { text = e; count = omega (arith, c, length-drop k l₀); long = long }

  pub closed : {ys : List ℕ} → ys ≡ print_rows (items_from 1 TOT 0 ts)
      → put_mid (block_bytes * length rows) (block_bytes * length rows + report_line_bytes * totals - block_bytes * length rows) l ys
      ≡ report_bytes (map numbered_figures rows) ts ++ drop (report_length (length rows)) l₀
  unfolding report_bytes
  closed {ys} f =
      let n = length rows in
      let a : block_bytes * n ≡ report_line_bytes * (block_figures * n) = omega arith in
      let z : report_line_bytes * (block_figures * n) + report_line_bytes * totals ≡ report_length n = omega arith in
      let y : length ys ≡ report_line_bytes * totals = ap length f ∙ items_long TOT 0 refl 1 ts ∙ rw three in
      let w = lent_part written (report_line_bytes * totals) ys (omega arith) y in
      rw a (w.text ∙ rw (z, f, rows_append))
