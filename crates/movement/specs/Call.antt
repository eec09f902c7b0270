-- The movement call, document 02, #111: what it answers, and every byte of the lent room afterwards. 'Another length is refused as 2, a broken line
-- as 3, then what the block call refuses'; last 14, as of every call that writes into lent room. Accepted, 'the reported movements of risks 1 to 7 in
-- order, each as a report line'. 22 stands in a risk's line and refuses no input. Assumes nothing.
use Rattle.std.specs.Prelude.{◌≡◌, refl, List, [], ◌∷◌, ◌++◌, ℕ, zero, suc, ◌+◌, eqb, ltb, ℤ, pos, ◌-ℤ◌, length}
use Rattle.basics.specs.Pick.{pick}
use Rattle.refusal.specs.Outcome.{Outcome}
use Rattle.refusal.specs.Outcome.Outcome.{accepted, refused}
use Rattle.refusal.specs.declared.Place.TheVariants.{Line, Risk, Nowhere}
use Rattle.amount.specs.Amount.{limit}
use Rattle.sizes.specs.Sizes.{risks, number_columns}
use Rattle.guideline.specs.Block.{ir, K}
use Rattle.sensitivity.specs.Movement.{raised}
use Rattle.block.specs.Call.{block_call}
use Rattle.field.specs.Signed.{signed}
use Rattle.key_columns.specs.Key.{key}
use Rattle.report_line.specs.Line.{line_in, report_line}
use Rattle.text_answer.specs.Lent.{Text, Done, lent}
use Rattle.text_answer.specs.Lent.Text.{no_text, bytes}
use Rattle.text_answer.specs.Printing.{refusal_line}
use Rattle.movement_input.specs.Reading.{input_bytes, input_lines, lines_kept, block_of, raise_of}

-- ---- the lines

-- the code of a movement, as bytes
abbrev pub MOV : List ℕ
MOV = 77 ∷ 79 ∷ 86 ∷ []

-- a report line whose number may be below 0: 'a minus right before a fall'
unfoldable pub signed_line : List ℕ → ℕ → ℕ → ℤ → List ℕ
signed_line code block item number = key code block item ++ (32 ∷ []) ++ signed number_columns number ++ (10 ∷ [])

-- where it isn't, that is a report line as any other
pub signed_line_lem : (code : List ℕ) (block item n : ℕ) → signed_line code block item (pos n) ≡ report_line code block item n
unfolding signed_line signed line_in
signed_line_lem code block item n = refl

-- how far the reported K of a block b moves as IR(i) is raised by t
abbrev pub movement : List ℕ → ℕ → ℕ → ℤ
movement b t i = pos (K (raised b i t)) -ℤ pos (K b)

-- the line of a risk: 'MOV, 0 and the risk'; or, where the raise 'takes IR(i) above the limit', 22, whose 'REF line stands in that MOV line's place'
unfoldable pub risk_line : List ℕ → ℕ → ℕ → List ℕ
risk_line b t i = pick (ltb limit (ir b i + t)) (refusal_line 22 (Risk i)) (signed_line MOV 0 i (movement b t i))

-- the lines of risks 1 to n
unfoldable pub risk_lines : List ℕ → ℕ → ℕ → List ℕ
risk_lines b t zero = []
risk_lines b t (suc n) = risk_lines b t n ++ risk_line b t (suc n)

-- ---- the call

-- by what the block call says: its refusal, or the lines
abbrev pub after_block : List ℕ → ℕ → Outcome → Text
after_block b t (refused n p) = no_text n p
after_block b t (accepted vs) = bytes (risk_lines b t risks)

-- 'a broken line as 3', with its line; 'then what the block call refuses'
unfoldable pub rule3 : List ℕ → Text
rule3 s = pick (ltb (lines_kept s) input_lines) (no_text 3 (Line (lines_kept s + 1))) (after_block (block_of s) (raise_of s) (block_call (block_of s)))

-- 'another length is refused as 2'
unfoldable pub movements : List ℕ → Text
movements s = pick (eqb (length s) input_bytes) (rule3 s) (no_text 2 Nowhere)

-- the call on an input s and lent room r
unfoldable pub movement_call : List ℕ → List ℕ → Done
movement_call s r = lent (movements s) r
