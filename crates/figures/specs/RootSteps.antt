-- The steps of a block's two roots, after document 02, #107: 'the block call gives after K those for I, then those for D'; since #109 those of the
-- finer roots. Assumes nothing.
use Rattle.std.specs.Prelude.{List, [], ◌∷◌, ℕ, ◌*◌}
use Rattle.sizes.specs.Sizes.{fineness}
use Rattle.guideline.specs.Block.{fine_i, a, radicand}
use Rattle.root.specs.Steps.{steps}
use Rattle.insurance.specs.Radicand.{radicand_i}

-- a² + a × I + I², in hundredths of the half cent
unfoldable pub radicand_d : List ℕ → ℕ
radicand_d b = radicand (fineness * a b) (fine_i b)

-- the steps for I, then those for D
unfoldable pub steps_of : List ℕ → List ℕ
steps_of b = steps (radicand_i b) ∷ steps (radicand_d b) ∷ []
