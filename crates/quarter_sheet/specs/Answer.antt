-- What is said of a sheet among others: document 02, #114, 'prints for each its buffer .. or its REF line'. It is judged by every rule but 14, and the
-- buffer is that of its report. Assumes nothing.
use Rattle.std.specs.Prelude.{[], ◌∷◌, ℕ, ◌*◌}
use Rattle.refusal.specs.Outcome.{Outcome}
use Rattle.refusal.specs.Outcome.Outcome.{accepted, refused}
use Rattle.guideline.specs.Buffer.{buffer, most_available}
use Rattle.judgement.specs.Sheet.{sheet_of}
use Rattle.judgement.specs.Judgement.{Judgement}
use Rattle.judgement.specs.Judgement.Judgement.{turned_away, sound}

-- of a judged sheet
unfoldable pub buffer_of : Judgement → Outcome
buffer_of (turned_away n p) = refused n p
buffer_of (sound es) = accepted (buffer (sheet_of es) ∷ [])

-- no buffer is above this: the scalar is 2 at most
abbrev pub most_buffer : ℕ
most_buffer = 2 * most_available
