-- What the shares call's steps hand on to one another. Assumes nothing.
use Rattle.std.specs.Prelude.{◌≡◌, true, false, Option, Some, None, List, ℕ}
use Rattle.basics.specs.First.{any_to}
use Rattle.basics.specs.Ascending.{list_to}
use Rattle.sizes.specs.Sizes.{parts}
use Rattle.apportion.specs.Shares.{total}
use Rattle.shares.specs.Margins.{negative, margin}
use Rattle.shares.specs.declared.PartMargins.{PartMargins}

-- the ten margins of a block, none of them negative, and their sum
pub record AllMargins (b each : List ℕ) (sum : ℕ) : Type 0 where
  pub none_negative : any_to (negative b) parts ≡ false
  pub each_is : each ≡ list_to (margin b) parts
  pub sum_is : sum ≡ total (margin b)

-- those, or that one of them is negative
abbrev pub MarginsOf : List ℕ → Option PartMargins → Type 0
MarginsOf b None = any_to (negative b) parts ≡ true
MarginsOf b (Some f) = AllMargins b f.each f.sum
