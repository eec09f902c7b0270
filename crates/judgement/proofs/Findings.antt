-- What judging tells of a sheet, by each case of its answer. Assumes nothing.
use Rattle.basics.proofs.Common.{◌≡◌, List, Result, sym, ap, ◌∙◌}
use Rattle.refusal.specs.declared.Refusal.{Refusal}
use Rattle.figures.specs.declared.NumberedFigures.{NumberedFigures}
use Rattle.judgement.specs.Judgement.{Findings, stated}
use Rattle.judgement.specs.declared.Totals.{Totals}

pub findings_of_answer : {v a : Result Totals Refusal} {x : Findings} (rows : List NumberedFigures) → v ≡ a → stated v rows ≡ x → stated a rows ≡ x
findings_of_answer rows e q = sym (ap (λ (r : Result Totals Refusal). stated r rows) e) ∙ q
