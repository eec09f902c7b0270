-- The numbers taken off the ledger are those of the lines that it holds. Assumes nothing.
use Rattle.basics.proofs.Common.{◌≡◌, ◌+◌, ◌*◌, leb, List, [], ◌∷◌, ap, ◌∙◌, arith, props, least}
use Rattle.codes.specs.Codes.{gross_class, guarantee_class, ceded_class}
use Rattle.guideline.specs.Operational.{volume, growth, general_requirement, operational_numerator, operational_denominator, RO}
use Rattle.guideline.proofs.Charges.{numerator_fits}
use Rattle.sheet_line.specs.declared.Entry.{Entry}
use Rattle.ledger.specs.Numbers.{general_amount}
use Rattle.judgement.specs.Sheet.{sheet_of}
use Rattle.ledger.specs.Lines.{Holds}
use Rattle.ledger.proofs.Tables.{of_lines, general_is}
use Rattle.judgement.proofs.Acceptance.{amounts_within}
use Rattle.judgement.proofs.VolumeCharges.{all_charged}
use Rattle.judgement.proofs.operational_figure.Goals.{After-volume_and_growth}
use Rattle.judgement.proofs.operational_figure.Goals as goal

taken : (c : After-volume_and_growth) →
    (es : List Entry) → Holds es c.args.ledger.now
    → (c.volume_and_growth.result ≡ 5 * volume (sheet_of es).volumes + growth (sheet_of es).volumes)
    × (c.general_amount.result ∷ c.general_amount-2.result ∷ c.general_amount-3.result ∷ [] ≡ (sheet_of es).general)
unfolding sheet_of
taken c es H =
    let first : c.general_amount.result ≡ general_amount es gross_class = c.general_amount.ensures ∙ general_is H gross_class (omega arith, omega arith) in
    let second : c.general_amount-2.result ≡ general_amount es guarantee_class = c.general_amount-2.ensures ∙ general_is H guarantee_class (omega arith, omega arith) in
    let third : c.general_amount-3.result ≡ general_amount es ceded_class = c.general_amount-3.ensures ∙ general_is H ceded_class (omega arith, omega arith) in
    (c.volume_and_growth.ensures es H ∙ all_charged es H.lines, λ i. first i ∷ second i ∷ third i ∷ [])

pub figure_of-requires : goal.figure_of-requires
figure_of-requires c =
    of_lines c.args.ledger.now (hlevel props)
    (λ es H.
    let t = taken (goal.at.figure_of-requires c).After-volume_and_growth es H in
    let f = numerator_fits _ _ (amounts_within es H.lines) in
    omega (arith, t.0, ap general_requirement t.1, f.volume_and_growth_fits, f.general_fits))

pub returns : goal.returns
unfolding RO operational_numerator
returns c es H =
    let t = taken (goal.at.returns c).After-volume_and_growth es H in
    c.figure_of.ensures ∙ (λ i. least (λ x. leb (t.0 i + 5 * general_requirement (t.1 i)) (operational_denominator * x)))
