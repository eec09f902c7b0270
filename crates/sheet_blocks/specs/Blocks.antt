-- The blocks of a sheet off its lines: 'Blocks ascend', their numbers and figures; and the dividend credits that rule 17 turns away. Assumes nothing.
use Rattle.std.specs.Prelude.{Bool, List, [], ◌∷◌, ℕ, ltb}
use Rattle.basics.specs.Pick.{pick}
use Rattle.basics.specs.Ascending.{ascending}
use Rattle.guideline.specs.Block.{K, figures_of}
use Rattle.codes.specs.Codes.{dividend_class}
use Rattle.codes.specs.declared.Code.TheVariants.{Crd}
use Rattle.sheet_line.specs.declared.Entry.{Entry}
use Rattle.places.specs.Entries.{has_line, exists}
use Rattle.ledger.specs.Numbers.{dividend_credit}
use Rattle.credits.specs.Credits.{after_credit}

-- the numbers of each of the blocks 1 to n that exist, ascending
unfoldable pub blocks_to : List Entry → ℕ → List (List ℕ)
blocks_to es n = ascending (exists es) (λ b. after_credit es b ∷ []) n

-- a row for each of the blocks 1 to n that exist, ascending: the block's number, and its five figures
unfoldable pub rows_to : List Entry → ℕ → List (ℕ × List ℕ)
rows_to es n = ascending (exists es) (λ b. (b, figures_of (after_credit es b)) ∷ []) n

-- a dividend credit 'above its block's K or for a block that has no RSK or OTH line', whatever its amount
unfoldable pub dividend_barred : List Entry → ℕ → Bool
dividend_barred es b = pick (exists es b) (ltb (K (after_credit es b)) (dividend_credit es b)) (has_line es Crd b dividend_class)
