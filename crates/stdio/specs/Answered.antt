-- What is known after an input was to be answered: of the bytes read, of the call, and of the bytes written. Assumes nothing.
use Rattle.std.specs.Prelude.{List, ℕ, ◌<◌, ◌≤◌, length, Option, None, Some, Result, Ok, Err}
use Rattle.std.specs.Io.KnownBytes.{Appends, Consumes, IsAtEnd, Keeps}
use Rattle.std.specs.Borrow.{Bor}
use Rattle.std.specs.Fn.{Once, FnOnceReturnsAt}
use Rattle.stdio.specs.declared.Failure.{Failure}
use Rattle.stdio.specs.declared.Failure.TheVariants.{Unread, Unwritten}

-- the bytes s are the next ones of the input, and all that it has left, or as many as the room takes
pub record Whole (room : ℕ) (left rest : Option (List ℕ)) (s : List ℕ) : Type 0 where
  pub within : length s ≤ room
  pub taken : Consumes left rest s
  pub ended : length s < room → IsAtEnd rest

module _ {F : Type 0} (g : Once F (Bor (List ℕ) × Unit {0}) (Bor (List ℕ))) (call : F) (room : ℕ) (left rest before after : Option (List ℕ)) where
  -- what was written is a text that the call gives of them
  pub record Written : Type 0 where
    pub input : List ℕ
    pub text : Bor (List ℕ)
    pub whole : Whole room left rest input
    pub says : FnOnceReturnsAt g call input text
    pub appended : Appends before after text.now

  -- by what is told: where a read failed, nothing was written; where a write did, the input had been read
  abbrev pub Answered : Result (Unit {0}) Failure → Type 0
  Answered (Ok _) = Written
  Answered (Err Unread) = Keeps before after × ((s : List ℕ) × Consumes left rest s)
  Answered (Err Unwritten) = (s : List ℕ) × Whole room left rest s

-- What a program promises that prints the text of its input, by what it tells: of an input whose bytes are known, however many, the output grew by its
-- text; of any other, by the text of some bytes. Where a read failed, nothing was written. Both say nothing of an output whose bytes aren't known.
abbrev pub Prints : (List ℕ → List ℕ) → Option (List ℕ) → Option (List ℕ) → Option (List ℕ) → Result (Unit {0}) Failure → Type 0
Prints text (Some s) before after (Ok _) = Appends before after (text s)
Prints text None before after (Ok _) = (s : List ℕ) × Appends before after (text s)
Prints text left before after (Err Unread) = Keeps before after
Prints text left before after (Err Unwritten) = Unit {0}
