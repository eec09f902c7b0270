-- What the steps to a block's figures hand on to one another. Assumes nothing.
use Rattle.std.specs.Prelude.{◌≡◌, List, [], ◌∷◌, ℕ, ◌-◌, ◌*◌, ◌≤◌}
use Rattle.amount.specs.Amount.{limit}
use Rattle.sizes.specs.Sizes.{fineness}
use Rattle.guideline.specs.Block.{I, D, U, LT, K, figures_of}
use Rattle.figures.specs.declared.Figures.{Figures}
use Rattle.figures.specs.declared.NumberedFigures.{NumberedFigures}
use Rattle.figures.specs.declared.Steps.{Steps}

-- the figures of the struct in document 01's order: I, D, U, LT, K
abbrev pub figure_list : Figures → List ℕ
figure_list f = f.i ∷ f.d ∷ f.u ∷ f.lt ∷ f.k ∷ []

-- a row of figures: a block's number, and its figures
abbrev pub numbered_figures : NumberedFigures → ℕ × List ℕ
numbered_figures r = (r.block, figure_list r.figures)

-- the steps of the two roots, I's first
abbrev pub step_list : Steps → List ℕ
step_list s = s.i ∷ s.d ∷ []

-- where they are a block's, each is the figure of its name
pub figures_are : (f : Figures) (b : List ℕ) → figure_list f ≡ figures_of b → (f.i ≡ I b) × (f.d ≡ D b) × (f.u ≡ U b) × (f.lt ≡ LT b) × (f.k ≡ K b)
unfolding figures_of
figures_are f b e = ((cc), (cc), (cc), (cc), (cc))

-- U, LT and the finer D of an accepted block: LT within U, U of at most ten amounts, D between a third of V and V
pub record FigureBounds (u l d : ℕ) : Type 0 where
  pub within : l ≤ u
  pub small : u ≤ 10 * limit
  pub third : fineness * (2 * u - l) ≤ 3 * d
  pub high : d ≤ fineness * (2 * u - l)
