-- What tells a failure. Assumes nothing.
use Rattle.std.specs.Prelude.{List, ℕ}
use Rattle.stdio.specs.declared.Failure.{Failure}
use Rattle.stdio.specs.declared.Failure.TheVariants.{Unread, Unwritten}

-- of two sentences, that of an input that could not be read, and that of an answer that could not be written
abbrev pub sentence : Failure → List ℕ → List ℕ → List ℕ
sentence Unread unread unwritten = unread
sentence Unwritten unread unwritten = unwritten
