-- What is worked out of a sheet's blocks, one after the other: sections 11.2 and 11.3 by document 01's sheet, and rule 17 of document 02's #102.
-- Assumes nothing.
use Rattle.std.specs.Prelude.{◌≡◌, true, List, ℕ, ◌+◌, length, map, take, drop}
use Rattle.basics.specs.First.{any_to}
use Rattle.basics.specs.Pick.{pick}
use Rattle.basics.specs.Total.{sum_to}
use Rattle.guideline.specs.Buffer.{sum_k}
use Rattle.figures.specs.Parts.{numbered_figures}
use Rattle.figures.specs.declared.NumberedFigures.{NumberedFigures}
use Rattle.sheet_line.specs.declared.Entry.{Entry}
use Rattle.ledger.specs.Numbers.{dividend_credit}
use Rattle.sheet_blocks.specs.Blocks.{blocks_to, rows_to, dividend_barred}
use Rattle.sheet_blocks.specs.declared.BlockTotals.{BlockTotals}

-- what is known of some blocks and of those after them
abbrev pub join : BlockTotals → BlockTotals → BlockTotals
join w more =
    record {
      count = w.count + more.count;
      sum = w.sum + more.sum;
      dividends = w.dividends + more.dividends;
      barred = pick w.barred true more.barred;
    }

-- the blocks 1 to n of the lines are worked out: how many exist, the sum of their K, the sum of their dividend credits, whether one of these is
-- barred by rule 17, and the blocks' rows in front of a table for all blocks
pub record WorkedOut (es : List Entry) (n : ℕ) (w : BlockTotals) (rows : List NumberedFigures) : Type 0 where
  pub count : w.count ≡ length (blocks_to es n)
  pub sum : w.sum ≡ sum_k (blocks_to es n)
  pub dividends : w.dividends ≡ sum_to (dividend_credit es) n
  pub barred : w.barred ≡ any_to (dividend_barred es) n
  pub front : map numbered_figures (take w.count rows) ≡ rows_to es n

-- behind the rows of so many blocks the table is as it was
abbrev pub RestKept : ℕ → List NumberedFigures → List NumberedFigures → Type 0
RestKept count rows rows' = drop count rows' ≡ drop count rows
