-- A call that judges a sheet and writes a text of a sound one into lent room, whatever the text: the report (document 01), the listing of unmet needs
-- (document 02, #113: 'A refused sheet gets its refusal; 14, last'). Assumes nothing.
use Rattle.std.specs.Prelude.{List, ℕ}
use Rattle.sheet_line.specs.declared.Entry.{Entry}
use Rattle.judgement.specs.Judgement.{Judgement, judgement}
use Rattle.judgement.specs.Judgement.Judgement.{turned_away, sound}
use Rattle.text_answer.specs.Lent.{Text, Done, lent}
use Rattle.text_answer.specs.Lent.Text.{no_text, bytes}

-- what it has to say of a judged sheet: the sheet's own refusal, by every rule but 14, or the text f of its lines
unfoldable pub text_of : (List Entry → List ℕ) → Judgement → Text
text_of f (turned_away n p) = no_text n p
text_of f (sound es) = bytes (f es)

-- the call on a sheet s and lent room r: its judgement, then rule 14, and then the text
unfoldable pub judged_call : (List Entry → List ℕ) → List ℕ → List ℕ → Done
judged_call f s r = lent (text_of f (judgement s)) r
