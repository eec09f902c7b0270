-- What a read gives the programs of documents 01 and 02. Which bytes come is the world's; what holds of their number: it is within the room, which
-- keeps its length. Of an input whose bytes are known, they are the next ones. Where a read fails, it is told to be unread. Assumes nothing.
use Rattle.std.specs.Prelude.{◌≡◌, List, ℕ, ◌<◌, ◌≤◌, length, take, Option, Result, Ok, Err}
use Rattle.std.specs.Io.KnownBytes.{Consumes, IsAtEnd, Keeps}
use Rattle.stdio.specs.declared.Failure.{Failure}
use Rattle.stdio.specs.declared.Failure.TheVariants.{Unread}

-- how much was read, with the room before and after
abbrev pub ReadInto : Result ℕ Failure → List ℕ → List ℕ → Type 0
ReadInto (Ok n) before after = (n ≤ length after) × (length after ≡ length before)
ReadInto (Err e) before after = (e ≡ Unread) × (length after ≡ length before)

-- Of an input whose bytes are known, those that were left and those that still are: the room begins with the bytes read. None are read only at
-- the end of the input, or where there is no room; and none are lost where a read fails.
abbrev pub TakesSome : Result ℕ Failure → Option (List ℕ) → Option (List ℕ) → List ℕ → Type 0
TakesSome (Ok n) left rest after = Consumes left rest (take n after) × (n ≡ 0 → 0 < length after → IsAtEnd rest)
TakesSome (Err e) left rest after = Keeps left rest

-- And of a reading to its end: nothing is left where the room is not full. Where a read fails, the room begins with the bytes before it.
abbrev pub TakesAll : Result ℕ Failure → Option (List ℕ) → Option (List ℕ) → List ℕ → Type 0
TakesAll (Ok n) left rest after = Consumes left rest (take n after) × (n < length after → IsAtEnd rest)
TakesAll (Err e) left rest after = (n : ℕ) × (n ≤ length after) × Consumes left rest (take n after)
