-- The version of the calls for C and Rust: how many numbers and bytes each is lent, and what they mean. It grows by one whenever a caller that was
-- compiled for an earlier one would lend something else, and from 3 on whenever a call is added, so that the one number tells which calls there are: 2
-- since the block call is lent seven figures for five (document 02, #107), 3 with the calls for #111 and #114. Assumes nothing.
use Rattle.std.specs.Prelude.{ℕ}

abbrev pub interface_version : ℕ
interface_version = 3
