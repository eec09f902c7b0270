-- The same, a byte at a time, in a room for so many bytes of a sheet: bytes past the room are counted nowhere. Assumes nothing.
use Rattle.std.specs.Prelude.{Option, Some, None, ℕ, suc, ◌+◌, ◌≤◌, ◌<◌, ◌≡◌, List, [], ◌∷◌, ◌++◌, ltb, eqb, length, take, drop}
use Rattle.basics.specs.Pick.{pick}
use Rattle.quarter_stream.specs.Sheets.{closing_minuses}
use Rattle.quarter_stream.specs.declared.OpenSheet.{OpenSheet}
use Rattle.quarter_stream.specs.declared.Closed.{Closed}
use Rattle.std.specs.declared.ops.ControlFlow.{ControlFlow}
use Rattle.std.specs.declared.ops.ControlFlow.TheVariants.{Continue, Break}

-- what is held of a sheet that is not closed yet: its bytes before the line that has begun, all its bytes, and how many minus signs that line is;
-- more than a closing line has where it is something else
pub record UnclosedSheet : Type 0 where
  pub lines : List ℕ
  pub bytes : List ℕ
  pub minuses : ℕ

-- nothing yet
abbrev pub new_sheet : UnclosedSheet
new_sheet = record { lines = []; bytes = []; minuses = 0 }

-- a byte more, where there is room for it
abbrev pub with_byte : ℕ → List ℕ → ℕ → List ℕ
with_byte room s b = take room (s ++ (b ∷ []))

-- what the minus signs of a line are said to be that can't be a closing one any more: one more than a closing line has
abbrev pub not_closing : ℕ
not_closing = closing_minuses + 1

-- the minus signs of a line that has a byte more
unfoldable pub counted : ℕ → ℕ → ℕ
counted m b = pick (eqb b 45) (pick (ltb m closing_minuses) (suc m) not_closing) not_closing

-- what a byte more does
pub data Next : Type 0 where
  stays_open : UnclosedSheet → Next
  closed : List ℕ → Next

unfoldable pub next : ℕ → UnclosedSheet → ℕ → Next
next room k b =
    pick (eqb b 10)
    (pick (eqb k.minuses closing_minuses)
    (closed k.lines)
    (stays_open (record { lines = with_byte room k.bytes b; bytes = with_byte room k.bytes b; minuses = 0 })))
    (stays_open (record { lines = k.lines; bytes = with_byte room k.bytes b; minuses = counted k.minuses b }))

unfoldable pub follow {ℓ} : {A : Type ℓ} → Next → (UnclosedSheet → A) → (List ℕ → A) → A
follow (stays_open k) f g = f k
follow (closed s) f g = g s

-- what all bytes do: the sheets that they close, and what is held after them
pub record StreamSheets : Type 0 where
  pub closed : List (List ℕ)
  pub held : UnclosedSheet

-- a sheet more, before the others
abbrev pub closed_then : List ℕ → StreamSheets → StreamSheets
closed_then s r = record { closed = s ∷ r.closed; held = r.held }

unfoldable pub stream_sheets : ℕ → UnclosedSheet → List ℕ → StreamSheets
stream_sheets room k [] = record { closed = []; held = k }
stream_sheets room k (b ∷ bs) = follow (next room k b) (λ j. stream_sheets room j bs) (λ s. closed_then s (stream_sheets room new_sheet bs))

-- the bytes up to the first closing line: what is held after all of them, or the sheet that is closed and the bytes after its closing line
pub data Scanned : Type 0 where
  none_found : UnclosedSheet → Scanned
  found : List ℕ → List ℕ → Scanned

unfoldable pub scanned : ℕ → UnclosedSheet → List ℕ → Scanned
scanned room k [] = none_found k
scanned room k (b ∷ bs) = follow (next room k b) (λ j. scanned room j bs) (λ s. found s bs)

-- ---- what the code's values say

-- the minus signs of a line that has begun
abbrev pub minus_signs : Option ℕ → ℕ
minus_signs None = not_closing
minus_signs (Some m) = m

-- a room and what is known of it
abbrev pub unclosed : List ℕ → OpenSheet → UnclosedSheet
unclosed room h = record { lines = take h.begun room; bytes = take h.length room; minuses = minus_signs h.minuses }

pub record Within (n : ℕ) (h : OpenSheet) : Type 0 where
  pub begun : h.begun ≤ h.length
  pub length : h.length ≤ n

-- nothing is known
pub record NewSheet (h : OpenSheet) : Type 0 where
  pub is_new : (room : List ℕ) → unclosed room h ≡ new_sheet
  pub within : (n : ℕ) → Within n h

-- a byte more in the room: the places before it keep theirs
pub record Put (before : List ℕ) (at b r : ℕ) (after : List ℕ) : Type 0 where
  pub bytes : take r after ≡ with_byte (length before) (take at before) b
  pub below : (n : ℕ) → n ≤ at → take n after ≡ take n before
  pub low : at ≤ r
  pub high : r ≤ length before

abbrev pub stepped : List ℕ → ControlFlow ℕ OpenSheet → Next
stepped room (Continue h) = stays_open (unclosed room h)
stepped room (Break n) = closed (take n room)

abbrev pub WithinStep : ℕ → ControlFlow ℕ OpenSheet → Type 0
WithinStep n (Continue h) = Within n h
WithinStep n (Break k) = k ≤ n

-- the room before, what is known of it, a byte; the answer and the room after
pub record Stepped (before : List ℕ) (h : OpenSheet) (b : ℕ) (r : ControlFlow ℕ OpenSheet) (after : List ℕ) : Type 0 where
  pub answer : stepped after r ≡ next (length before) (unclosed before h) b
  pub within : WithinStep (length before) r

-- the same for the bytes of a chunk from a place on; a closed sheet comes with the place after its closing line
abbrev pub scanned_as : List ℕ → List ℕ → ControlFlow Closed OpenSheet → Scanned
scanned_as room chunk (Continue h) = none_found (unclosed room h)
scanned_as room chunk (Break c) = found (take c.length room) (drop c.next chunk)

-- in a room of n bytes, from a place of a chunk of m bytes on
abbrev pub WithinScan : ℕ → ℕ → ℕ → ControlFlow Closed OpenSheet → Type 0
WithinScan n m at (Continue h) = Within n h
WithinScan n m at (Break c) = (c.length ≤ n) × (at < c.next) × (c.next ≤ m)

pub record ScannedTo (before : List ℕ) (h : OpenSheet) (chunk : List ℕ) (at : ℕ) (r : ControlFlow Closed OpenSheet) (after : List ℕ) : Type 0 where
  pub answer : scanned_as after chunk r ≡ scanned (length before) (unclosed before h) (drop at chunk)
  pub within : WithinScan (length before) (length chunk) at r

-- after the bytes s: these sheets were closed, each as far as the room goes, and the room and h hold the rest
pub record SoFar (room : List ℕ) (h : OpenSheet) (s : List ℕ) (xs : List (List ℕ)) : Type 0 where
  pub is : stream_sheets (length room) new_sheet s ≡ record { closed = xs; held = unclosed room h }
