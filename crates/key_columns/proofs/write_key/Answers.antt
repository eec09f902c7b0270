-- The code and the two numbers are copied into their columns, and the stores put the spaces between them. Assumes nothing.
use Rattle.basics.proofs.Common.{◌∙◌, rules}
use Rattle.key_columns.proofs.Columns.{key_filled}
use Rattle.key_columns.proofs.write_key.Goals as goal

pub returns : goal.returns
returns c =
    key_filled _ _ _ (search rules) c.args.out.now c.requires c.copy_from_slice.ensures.after
    (c.copy_from_slice-2.ensures.after ∙ c.two_columns.ensures) (c.copy_from_slice-3.ensures.after ∙ c.two_columns-2.ensures)
