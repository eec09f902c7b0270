-- Small sheets, and what the sheet call answers to each: the dummies are refuted there. Assumes nothing.
use Rattle.std.specs.Prelude.{◌≡◌, Bool, true, List, [], ◌∷◌, ◌++◌, ℕ, ◌+◌, get_or, replicate, Option, Some, None}
use Rattle.refusal.specs.Outcome.{Outcome}
use Rattle.refusal.specs.Outcome.Outcome.{accepted}
use Rattle.guideline.specs.Buffer as Buffer
use Rattle.accuracy.specs.ExactBuffer as ExactBuffer
use Rattle.report_line.specs.Line.{number_at}
use Rattle.sheet_line.specs.declared.Entry.{Entry}
use Rattle.codes.specs.Codes.{guarantee_class, scalar_class}
use Rattle.sheet_line.specs.Line.{print_line}
use Rattle.codes.specs.declared.Code.TheVariants.{Rsk, Gen}
use Rattle.report.specs.Rows.{BLK, TOT, report_length}
use Rattle.judgement.specs.Sheet.{sheet_of}
use Rattle.judgement.specs.Judgement.{Judgement, judgement}
use Rattle.judgement.specs.Judgement.Judgement.{turned_away, sound}
use Rattle.text_answer.specs.Lent.{Done}
use Rattle.sheet_call.specs.Call.{sheet_call}
use Rattle.dummies.specs.Dummies.{are_bytes, claimed_report, filled_in}

-- GEN 0 4, a scalar of one
abbrev pub scalar : Entry
scalar = record { code = Gen; block = 0; class = scalar_class; first = 10000; second = 0 }

-- GEN 0 2, a guarantee requirement of a cent
abbrev pub guarantee : Entry
guarantee = record { code = Gen; block = 0; class = guarantee_class; first = 1; second = 0 }

-- RSK b 1, a component of n cents
abbrev pub component : ℕ → ℕ → Entry
component b n = record { code = Rsk; block = b; class = 1; first = n; second = 0 }

-- a sheet of these lines
abbrev pub sheet_with : List Entry → List ℕ
sheet_with [] = []
sheet_with (e ∷ es) = print_line e ++ sheet_with es

-- room of n bytes
abbrev pub room : ℕ → List ℕ
room n = replicate n 35

-- what is looked at of a judged sheet: the allowance, all credits together, the buffer, and the one with the first block in place of each
pub record Amounts : Type 0 where
  pub allowance : ℕ
  pub credits : ℕ
  pub buffer : ℕ
  pub filled_in : ℕ

-- of a sheet that is turned away, nothing
abbrev pub amounts_of : Judgement → Amounts
amounts_of (turned_away n p) = record { allowance = 0; credits = 0; buffer = 0; filled_in = 0 }
amounts_of (sound es) =
    let s = sheet_of es in
    record { allowance = ExactBuffer.allowance s; credits = s.CRᵢ + Buffer.free s; buffer = Buffer.buffer s; filled_in = Buffer.buffer (filled_in s) }

-- the lines of a sheet that was judged, the last one first
abbrev pub lines_of : Judgement → List Entry
lines_of (turned_away n p) = []
lines_of (sound es) = es

-- what is looked at of an answer: whether all that was handed over is bytes, the sheet's lines and amounts, the outcome, the report's first byte, and the
-- numbers read back of the buffer and of K of blocks 1 and 2
pub record Facts : Type 0 where
  pub bytes : Bool
  pub lines : List Entry
  pub amounts : Amounts
  pub outcome : Outcome
  pub head : ℕ
  pub buffer : Option ℕ
  pub k₁ : Option ℕ
  pub k₂ : Option ℕ

-- of what a call gives for a sheet s and room r
abbrev pub facts_of : List ℕ → List ℕ → Done → Facts
facts_of s r d =
    record {
      bytes = are_bytes (s ++ r);
      lines = lines_of (judgement s);
      amounts = amounts_of (judgement s);
      outcome = d.outcome;
      head = get_or d.room 0 0;
      buffer = number_at d.room TOT 0 3;
      k₁ = number_at (claimed_report d) BLK 1 5;
      k₂ = number_at (claimed_report d) BLK 2 5;
    }

-- a sheet, the room lent, and the answer's facts
pub record Case : Type 0 where
  pub sheet : List ℕ
  pub lent : List ℕ
  pub facts : Facts

-- no block
abbrev pub empty : Case
empty =
    record {
      sheet = sheet_with (scalar ∷ []);
      lent = room (report_length 0);
      facts =
          record {
            bytes = true;
            lines = scalar ∷ [];
            amounts = record { allowance = 2000000; credits = 0; buffer = 0; filled_in = 0 };
            outcome = accepted (report_length 0 ∷ []);
            head = 84;
            buffer = Some 0;
            k₁ = None;
            k₂ = None;
          };
    }

-- a buffer that isn't 0
abbrev pub guaranteed : Case
guaranteed =
    record {
      sheet = sheet_with (guarantee ∷ scalar ∷ []);
      lent = room (report_length 0);
      facts =
          record {
            bytes = true;
            lines = scalar ∷ guarantee ∷ [];
            amounts = record { allowance = 2000000; credits = 0; buffer = 2; filled_in = 2 };
            outcome = accepted (report_length 0 ∷ []);
            head = 84;
            buffer = Some 2;
            k₁ = None;
            k₂ = None;
          };
    }

-- two blocks with another K each
abbrev pub two_blocks : Case
two_blocks =
    record {
      sheet = sheet_with (component 1 100 ∷ component 2 200 ∷ scalar ∷ []);
      lent = room (report_length 2);
      facts =
          record {
            bytes = true;
            lines = scalar ∷ component 2 200 ∷ component 1 100 ∷ [];
            amounts = record { allowance = 4020000; credits = 0; buffer = 300; filled_in = 200 };
            outcome = accepted (report_length 2 ∷ []);
            head = 66;
            buffer = Some 300;
            k₁ = Some 100;
            k₂ = Some 200;
          };
    }

-- the same first block, and a second one with another amount
abbrev pub another_second : Case
another_second =
    record {
      sheet = sheet_with (component 1 100 ∷ component 2 300 ∷ scalar ∷ []);
      lent = room (report_length 2);
      facts =
          record {
            bytes = true;
            lines = scalar ∷ component 2 300 ∷ component 1 100 ∷ [];
            amounts = record { allowance = 4020000; credits = 0; buffer = 400; filled_in = 200 };
            outcome = accepted (report_length 2 ∷ []);
            head = 66;
            buffer = Some 400;
            k₁ = Some 100;
            k₂ = Some 300;
          };
    }

-- what the sheet call gives for the case's sheet and room has the facts that the case says
abbrev pub Answered : Case → Type 0
Answered a = facts_of a.sheet a.lent (sheet_call a.sheet a.lent) ≡ a.facts
