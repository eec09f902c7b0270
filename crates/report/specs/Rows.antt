-- The rows of a report, after document 01, 'The sheet and the report': 'Blocks ascend, each with five BLK lines, items 1 I and 2 D
-- (half cents), 3 U, 4 LT, 5 K (cents). Three TOT lines close it, block 0: 1 sum of K, 2 RO, 3 buffer'.
-- Assumes nothing.
use Rattle.std.specs.Prelude.{List, [], ◌∷◌, ◌++◌, ℕ, suc, ◌+◌, ◌*◌}
use Rattle.std.specs.List.{flat_map}
use Rattle.sizes.specs.Sizes.{blocks, block_figures}
use Rattle.report_line.specs.declared.Row.{Row}
use Rattle.report_line.specs.Line.{report_line_bytes, print_rows}

-- the code of a block's lines, as bytes
abbrev pub BLK : List ℕ
BLK = 66 ∷ 76 ∷ 75 ∷ []

-- the code of the totals
abbrev pub TOT : List ℕ
TOT = 84 ∷ 79 ∷ 84 ∷ []

-- what one line says
abbrev pub row : List ℕ → ℕ → ℕ → ℕ → Row
row c b i n = record { code = c; block = b; item = i; number = n }

-- a line for each number, all of one code and block, their items counted from i on
unfoldable pub items_from : ℕ → List ℕ → ℕ → List ℕ → List Row
items_from i c b [] = []
items_from i c b (n ∷ ns) = row c b i n ∷ items_from (suc i) c b ns

-- the lines of a block, of its five figures
abbrev pub block_rows : ℕ → List ℕ → List Row
block_rows b figures = items_from 1 BLK b figures

-- the lines that close a report
abbrev pub total_rows : ℕ → ℕ → ℕ → List Row
total_rows sum ro buffer = items_from 1 TOT 0 (sum ∷ ro ∷ buffer ∷ [])

-- ---- a report of rows: a block's number and its five figures each

-- the lines of the rows
abbrev pub table_rows : List (ℕ × List ℕ) → List Row
table_rows rows = flat_map (λ r. block_rows r.0 r.1) rows

-- a whole report, of rows and the three totals
unfoldable pub report_bytes : List (ℕ × List ℕ) → List ℕ → List ℕ
report_bytes rows totals = print_rows (table_rows rows ++ items_from 1 TOT 0 totals)

-- the lines that close a report
abbrev pub totals : ℕ
totals = 3

-- 'the report's length, 29 × (5n + 3) bytes for n blocks'
abbrev pub report_length : ℕ → ℕ
report_length n = report_line_bytes * (block_figures * n + totals)

-- that of all blocks, 4,727 bytes
abbrev pub longest_report : ℕ
longest_report = report_length blocks
