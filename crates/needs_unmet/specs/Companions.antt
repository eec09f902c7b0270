-- What the tables of a sheet's lines are asked for: the companions of document 02's #113. Assumes nothing.
use Rattle.std.specs.Prelude.{◌≡◌, ◌≤◌}
use Rattle.sizes.specs.Sizes.{blocks}
use Rattle.codes.specs.Codes.{Key}
use Rattle.needs.specs.declared.Label.{Label}

-- a companion that tables can be asked for: a block's RSK lines, or the line of a code, block and class
pub record HasPlace (m : Label) : Type 0 where
  pub a_block : m.class ≡ 0 → (1 ≤ m.block) × (m.block ≤ blocks)
  pub a_class : (m.class ≡ 0 → ⊥) → Key m.code m.block m.class
