-- Document 01, 'To the testers': 'Then try dummies.' Each is what is true of the call of a program that does so, and of nothing that such a
-- program leaves open: a call is asked about sheets and rooms of bytes, and about its report where it accepts.
-- Assumes nothing.
use Rattle.std.specs.Prelude.{◌≡◌, Bool, true, ◌&&◌, List, [], ◌∷◌, ◌++◌, map, ℕ, ◌+◌, ◌*◌, ◌≤◌, ◌<◌, ltb, get_or, take, Some}
use Rattle.basics.specs.Pick.{pick}
use Rattle.refusal.specs.Outcome.{Outcome}
use Rattle.refusal.specs.Outcome.Outcome.{accepted, refused}
use Rattle.refusal.specs.declared.Place.{Place}
use Rattle.guideline.specs.Buffer.{Sheet, buffer, free, CreditsWithin}
use Rattle.accuracy.specs.ExactBuffer.{millionths, allowance}
use Rattle.report_line.specs.Line.{number_at}
use Rattle.sheet_line.specs.Rules.{row_for}
use Rattle.sheet_line.specs.declared.Entry.{Entry}
use Rattle.places.specs.Entries.{exists}
use Rattle.report.specs.Rows.{BLK, TOT}
use Rattle.judgement.specs.Sheet.{sheet_of}
use Rattle.judgement.specs.Judgement.{judgement}
use Rattle.judgement.specs.Judgement.Judgement.{sound}
use Rattle.text_answer.specs.Lent.{Done}
use Rattle.sheet_call.specs.Call.{sheet_call}
use Rattle.sheet_call.specs.Demand.{Demand3}

-- every number of a list is a byte
unfoldable pub are_bytes : List ℕ → Bool
are_bytes [] = true
are_bytes (b ∷ l) = ltb b 256 && are_bytes l

-- a sheet and a lent report as a caller can hand them over
abbrev pub Lent : List ℕ → List ℕ → Type 0
Lent s r = are_bytes (s ++ r) ≡ true

-- a call is what it gives, outcome and report afterwards, for a sheet and a lent report
abbrev pub Call : Type 0
Call = List ℕ → List ℕ → Done

-- it meets the sheet call's contract: demand 2
abbrev pub MeetsContract : Call → Type 0
MeetsContract call = (s r : List ℕ) → Lent s r → call s r ≡ sheet_call s r

-- it meets demand 3
abbrev pub MeetsDemand3 : Call → Type 0
MeetsDemand3 call = (s r : List ℕ) → Lent s r → Demand3 s (call s r).outcome (call s r).room

-- 'One that turns every sheet away'
abbrev pub TurnsAllAway : Call → Type 0
TurnsAllAway call = (s r : List ℕ) → Lent s r → (n : ℕ) × (p : Place) × ((call s r).outcome ≡ refused n p)

-- 'one with a constant report': two sheets that it accepts with one room leave the same bytes there
abbrev pub ConstantReport : Call → Type 0
ConstantReport call =
    (s t r vs ws : List ℕ) → Lent s r → Lent t r → (call s r).outcome ≡ accepted vs → (call t r).outcome ≡ accepted ws →
    (call s r).room ≡ (call t r).room

-- 'one that writes nothing and claims success': where it accepts, the room is as it was
abbrev pub WritesNothing : Call → Type 0
WritesNothing call = (s r vs : List ℕ) → Lent s r → (call s r).outcome ≡ accepted vs → (call s r).room ≡ r

-- 'one that says 'report too short' at once'
abbrev pub TooShortAtOnce : Call → Type 0
TooShortAtOnce call = (s r : List ℕ) → Lent s r → (p : Place) × ((call s r).outcome ≡ refused 14 p)

-- ---- 'One that works out the first block and fills in the others'

-- the report that a call claims: as many bytes as it says, none where it refuses. What stood in the room behind it is no part of it
abbrev pub claimed_report : Done → List ℕ
claimed_report d = bytes_of d.outcome
  where
    bytes_of : Outcome → List ℕ
    bytes_of (accepted vs) = take (get_or vs 0 0) d.room
    bytes_of (refused n p) = []

-- where K of block 1 and of block 2 can both be read off its report, they are equal
abbrev pub FirstFilledIn : Call → Type 0
FirstFilledIn call =
    (s r : List ℕ) (k₁ k₂ : ℕ) → Lent s r → number_at (claimed_report (call s r)) BLK 1 5 ≡ Some k₁ →
    number_at (claimed_report (call s r)) BLK 2 5 ≡ Some k₂ → k₁ ≡ k₂

-- the first of some blocks in place of each
abbrev pub first_for_all : List (List ℕ) → List (List ℕ)
first_for_all [] = []
first_for_all (b ∷ bs) = b ∷ map (λ c. b) bs

-- a sheet with its first block in place of each
abbrev pub filled_in : Sheet → Sheet
filled_in s =
    record { blocks = first_for_all s.blocks; volumes = s.volumes; general = s.general; g = s.g; CRᵢ = s.CRᵢ; CRⱼ = s.CRⱼ; CG = s.CG }

-- it accepts what the sheet call accepts, unless rule 17 or 13 by its own sum of K turns the sheet away; and the buffer that it reports is of
-- that sum
pub record BufferOfFirst (call : Call) : Type 0 where
  pub accepts :
      (s r vs : List ℕ) (es : List Entry) → Lent s r → judgement s ≡ sound es → CreditsWithin (filled_in (sheet_of es)) →
      (sheet_call s r).outcome ≡ accepted vs → (call s r).outcome ≡ accepted vs
  pub reads_buffer :
      (s r vs : List ℕ) (es : List Entry) → Lent s r → judgement s ≡ sound es → (call s r).outcome ≡ accepted vs →
      number_at (call s r).room TOT 0 3 ≡ Some (buffer (filled_in (sheet_of es)))

-- ---- and with whatever doesn't depend on their lines, zeros among them

-- a line as such a program sees it: an RSK or OTH line of another block than the first has lost its amounts
unfoldable pub blanked : Entry → Entry
blanked e = pick ((row_for e).makes_block && ltb 1 e.block) (record { code = e.code; block = e.block; class = e.class; first = 0; second = 0 }) e

-- the lines of two sheets that have a block 1 and differ in nothing that such a program sees
pub record AlikeButOthers (s t : List ℕ) (es fs : List Entry) : Type 0 where
  pub one : judgement s ≡ sound es
  pub other : judgement t ≡ sound fs
  pub first : exists es 1 ≡ true
  pub same : map blanked es ≡ map blanked fs

-- where K of another block can be read off the reports of two such sheets, it is the same in both
abbrev pub OthersFilledIn : Call → Type 0
OthersFilledIn call =
    (s t r : List ℕ) (es fs : List Entry) (b k m : ℕ) → Lent s r → Lent t r → AlikeButOthers s t es fs → 1 < b →
    number_at (claimed_report (call s r)) BLK b 5 ≡ Some k → number_at (claimed_report (call t r)) BLK b 5 ≡ Some m → k ≡ m

-- it accepts what the sheet call accepts, at least where there are no credits, and the buffers that it reports of two such sheets are the same
pub record BufferWithoutOthers (call : Call) : Type 0 where
  pub accepts :
      (s r vs : List ℕ) (es : List Entry) → Lent s r → judgement s ≡ sound es → (sheet_of es).CRᵢ + free (sheet_of es) ≡ 0 →
      (sheet_call s r).outcome ≡ accepted vs → (call s r).outcome ≡ accepted vs
  pub same_buffer :
      (s t r vs ws : List ℕ) (es fs : List Entry) → Lent s r → Lent t r → AlikeButOthers s t es fs →
      (call s r).outcome ≡ accepted vs → (call t r).outcome ≡ accepted ws → number_at (call s r).room TOT 0 3 ≡ number_at (call t r).room TOT 0 3

-- ---- 'A huge 'safe' buffer'

-- a buffer of x cents that is the allowance or more above the one that is due
abbrev pub FarAbove : Sheet → ℕ → Type 0
FarAbove s x = millionths * buffer s + allowance s ≤ millionths * x

-- and one that is the allowance or more below it
abbrev pub FarBelow : Sheet → ℕ → Type 0
FarBelow s x = millionths * x + allowance s ≤ millionths * buffer s
