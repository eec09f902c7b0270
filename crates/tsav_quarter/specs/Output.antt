-- What is known of the lines that are written. Document 02, #114: 'If a sheet is accepted, the total is at or above the exact
-- total'. Assumes nothing.
use Rattle.std.specs.Prelude.{List, ℕ, Option, None, Some, Result, Ok, Err}
use Rattle.std.specs.Io.KnownBytes.{Appends, Keeps}
use Rattle.stdio.specs.declared.Failure.{Failure}
use Rattle.stdio.specs.declared.Failure.TheVariants.{Unread, Unwritten}
use Rattle.quarter_text.specs.Printout.{quarter_text}
use Rattle.quarter_text.specs.Demand.{QuarterDemand}

-- of an input s: the output grew by its text. `demand` is a law of that text, whatever the program, and stands here for the reader: its summary, where
-- it has one, says what it has to
pub record Summarized (before after : Option (List ℕ)) (s : List ℕ) : Type 0 where
  pub text : Appends before after (quarter_text s)
  pub demand : QuarterDemand s (quarter_text s)

-- by what is told, as `Prints` has it of the other programs: of an input whose bytes are known, however many, of that input; of any other, of some
-- bytes. Where a read failed, nothing was written. Nothing is said of an output whose bytes aren't known
abbrev pub PrintsQuarter : Option (List ℕ) → Option (List ℕ) → Option (List ℕ) → Result (Unit {0}) Failure → Type 0
PrintsQuarter (Some s) before after (Ok _) = Summarized before after s
PrintsQuarter None before after (Ok _) = (s : List ℕ) × Summarized before after s
PrintsQuarter left before after (Err Unread) = Keeps before after
PrintsQuarter left before after (Err Unwritten) = Unit {0}
