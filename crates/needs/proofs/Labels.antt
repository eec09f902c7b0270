-- Labels and the lines that are made of two: how long they are. Assumes nothing.
use Rattle.basics.proofs.Common.{◌≡◌, length, length-append}
use Rattle.codes.specs.Codes.{letters_of}
use Rattle.codes.proofs.Table.{three_letters}
use Rattle.key_columns.specs.Key.{key_bytes}
use Rattle.key_columns.proofs.Columns.{length_key}
use Rattle.needs.specs.Listing.{listed_bytes, label_of, listed_line}
use Rattle.needs.specs.declared.Label.{Label}

pub length_label : (l : Label) → length (label_of l) ≡ key_bytes
unfolding label_of
length_label l = length_key (letters_of l.code) l.block l.class (three_letters l.code)

pub length_listed : (l m : Label) → length (listed_line l m) ≡ listed_bytes
unfolding listed_line
length_listed l m = simp (length-append, length_label)
