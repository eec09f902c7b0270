-- Sheets that look alike. Document 02, #105: 'Treasurers want two sheets of the same figures to look alike.' Assumes nothing.
use Rattle.basics.proofs.Common.{◌≡◌, ℕ, List, sym, ◌∙◌}
use Rattle.sheet_line.specs.declared.Entry.{Entry}
use Rattle.order.specs.Order.{SameFigures, Ascending, Ordered}
use Rattle.order.specs.Reading.{print_lines}
use Rattle.order.proofs.Ascent.{ascending_ordered}
use Rattle.order.proofs.Lines.{reading_ascending}
use Rattle.order.proofs.PrintedSheets.{sheet_printed, sheets_alike}
use Rattle.judgement.specs.Judgement.{judgement, Judgement.sound}
use Rattle.judgement.proofs.Acceptance.{sound_passed}

-- the lines of a sound judgement ascend, the last one first
pub sound_ascending : (s : List ℕ) (es : List Entry) → judgement s ≡ sound es → Ascending es
sound_ascending s es e = rw (sound_passed s es e).read at (reading_ascending s)

-- in the paper's words: each comes before the next by code, then by block, then by class
pub sound_ordered : (s : List ℕ) (es : List Entry) → judgement s ≡ sound es → Ordered es
sound_ordered s es e = ascending_ordered es (sound_passed s es e).lines (sound_ascending s es e)

-- a sheet that is judged to be sound is the bytes of its lines
pub sound_bytes : (s : List ℕ) (es : List Entry) → judgement s ≡ sound es → s ≡ print_lines es
sound_bytes s es e = let p = sound_passed s es e in sheet_printed s es p.whole p.read

-- so two that have the same lines are the same bytes
pub same_lines_alike : (s t : List ℕ) (es : List Entry) → judgement s ≡ sound es → judgement t ≡ sound es → s ≡ t
same_lines_alike s t es p q = sound_bytes s es p ∙ sym (sound_bytes t es q)

-- and as lines ascend, two that have the same lines, each with the same amounts, are the same bytes
pub same_figures_alike : (s t : List ℕ) (es fs : List Entry) → judgement s ≡ sound es → judgement t ≡ sound fs → SameFigures es fs → s ≡ t
same_figures_alike s t es fs p q w =
    let a = sound_passed s es p in
    let b = sound_passed t fs q in
    sheets_alike s t es fs a.whole b.whole a.read b.read w
