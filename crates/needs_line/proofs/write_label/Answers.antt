-- A label is columns 1–9 of a line, with the letters of its code. Assumes nothing.
use Rattle.basics.proofs.Common.{◌∙◌}
use Rattle.needs.specs.Listing.{label_of}
use Rattle.needs_line.proofs.write_label.Goals as goal

pub returns : goal.returns
unfolding label_of
returns c = c.write_key.ensures ∙ rw (c.into.ensures, c.word.ensures, c.word-2.ensures)
