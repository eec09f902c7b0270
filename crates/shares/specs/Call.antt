-- The shares call, after document 02, #112: 'It refuses, as number 23 with no place, a block with a negative margin or with all margins zero,
-- after the block's own tests.' Assumes nothing.
use Rattle.std.specs.Prelude.{List, ℕ, eqb}
use Rattle.basics.specs.Pick.{pick}
use Rattle.basics.specs.First.{any_to}
use Rattle.refusal.specs.Outcome.{Outcome}
use Rattle.refusal.specs.Outcome.Outcome.{accepted, refused}
use Rattle.refusal.specs.declared.Place.TheVariants.{Nowhere}
use Rattle.sizes.specs.Sizes.{parts}
use Rattle.guideline.specs.Block.{K}
use Rattle.block.specs.Call.{block_call}
use Rattle.apportion.specs.Shares.{total, shares}
use Rattle.shares.specs.Margins.{negative, margin}

-- 23 'with all margins zero', else the shares
unfoldable pub unless_zero : List ℕ → Outcome
unless_zero b = pick (eqb (total (margin b)) 0) (refused 23 Nowhere) (accepted (shares (K b) (margin b)))

-- 23 'with a negative margin'
unfoldable pub rule23 : List ℕ → Outcome
rule23 b = pick (any_to (negative b) parts) (refused 23 Nowhere) (unless_zero b)

-- 'after the block's own tests': what they refuse stays refused, what they accept goes on
unfoldable pub after_block : Outcome → Outcome → Outcome
after_block (refused n p) next = refused n p
after_block (accepted vs) next = next

-- the shares call on its 17 numbers
unfoldable pub shares_call : List ℕ → Outcome
shares_call b = after_block (block_call b) (rule23 b)
