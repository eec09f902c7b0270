-- Two sheets of the same figures look alike (document 02, #105): of two sheets that the call accepts, whatever room each is lent, the same lines
-- with the same amounts are the same bytes. Assumes nothing.
use Rattle.basics.proofs.Common.{◌≡◌, ℕ, List, subst}
use Rattle.refusal.specs.Outcome.{Outcome, Outcome.accepted, Outcome.refused}
use Rattle.sheet_line.specs.declared.Entry.{Entry}
use Rattle.order.specs.Order.{SameFigures}
use Rattle.order.specs.Reading.{reading, entries_of}
use Rattle.judgement.specs.Judgement.{judgement, Judgement.sound}
use Rattle.judgement.proofs.Acceptance.{sound_passed}
use Rattle.judgement.proofs.AlikeSheets.{same_figures_alike}
use Rattle.sheet_answer.proofs.Judgements.{by_answer}
use Rattle.sheet_call.specs.Call.{report_of, sheet_call}

-- the lines that a sheet has
abbrev pub lines_of : List ℕ → List Entry
lines_of s = entries_of (reading s)

-- what is accepted was judged to be sound
abbrev Judged : List ℕ → Outcome → Type 0
Judged s (accepted vs) = judgement s ≡ sound (lines_of s)
Judged s (refused n p) = Unit {0}

judged : (s r : List ℕ) → Judged s (sheet_call s r).outcome
judged s r = by_answer report_of s r (λ d. Judged s d.outcome) (λ n p. tt) (λ es e. rw (sound_passed s es e).read e)

pub accepted_alike :
    (s t r q vs ws : List ℕ) → (sheet_call s r).outcome ≡ accepted vs → (sheet_call t q).outcome ≡ accepted ws → SameFigures (lines_of s) (lines_of t) → s ≡ t
accepted_alike s t r q vs ws e f same =
    same_figures_alike s t _ _ (subst (Judged s) e (judged s r)) (subst (Judged t) f (judged t q)) same
