-- A sheet's amounts off its lines: 'An absent line means zeros'. Assumes nothing.
use Rattle.std.specs.Prelude.{List, [], ◌∷◌}
use Rattle.codes.specs.Codes.{gross_class, guarantee_class, ceded_class, scalar_class, group_credits_class}
use Rattle.basics.specs.Total.{sum_to}
use Rattle.sizes.specs.Sizes.{blocks, adjustable_products}
use Rattle.guideline.specs.Buffer.{Sheet}
use Rattle.sheet_line.specs.declared.Entry.{Entry}
use Rattle.ledger.specs.Numbers.{volumes_of, general_amount, dividend_credit, adjustable_credit}
use Rattle.sheet_blocks.specs.Blocks.{blocks_to}

-- 'GEN: 1 gross components, 2 guarantee requirement, 3 ceded premiums, 4 g, 5 credits', CRD's credits, of which a block without participation has
-- none of its own, and the volumes with joined priors
unfoldable pub sheet_of : List Entry → Sheet
sheet_of es =
    record {
      blocks = blocks_to es blocks;
      volumes = volumes_of es;
      general = general_amount es gross_class ∷ general_amount es guarantee_class ∷ general_amount es ceded_class ∷ [];
      g = general_amount es scalar_class;
      CRᵢ = sum_to (dividend_credit es) blocks;
      CRⱼ = sum_to (adjustable_credit es) adjustable_products;
      CG = general_amount es group_credits_class;
    }
