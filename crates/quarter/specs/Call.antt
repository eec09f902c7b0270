-- The call on an input of sheets that is whole in memory: what it answers, and every byte of the lent room afterwards. It leaves what tsav-quarter
-- prints of the input, a last line REF 24 or 25 included: 'the sheets before it are answered' (document 02, #114), and a call that refuses writes
-- nothing, so that neither can be the call's refusal. As of every call that writes into lent room, 14 means room shorter than the text. Assumes nothing.
use Rattle.std.specs.Prelude.{List, [], ◌∷◌, ℕ, take}
use Rattle.refusal.specs.Outcome.{Outcome}
use Rattle.refusal.specs.Outcome.Outcome.{accepted, refused}
use Rattle.text_answer.specs.Lent.{Done, lent}
use Rattle.text_answer.specs.Lent.Text.{bytes}
use Rattle.quarter_text.specs.Printout.{quarter_text}
use Rattle.quarter_text.specs.Demand.{QuarterDemand}

-- the call on an input s and lent room r: rule 14, and then the text
unfoldable pub quarter_call : List ℕ → List ℕ → Done
quarter_call s r = lent (bytes (quarter_text s)) r

-- of an input, the call's outcome and the room afterwards: where it accepts, the summary in the bytes written says what it has to
abbrev pub SummarySays : List ℕ → Outcome → List ℕ → Type 0
SummarySays s (accepted []) r = ⊥
SummarySays s (accepted (n ∷ ns)) r = QuarterDemand s (take n r)
SummarySays s (refused n p) r = Unit {0}
