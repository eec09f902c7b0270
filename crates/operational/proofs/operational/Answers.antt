-- Business and five times the general requirement are the numerator of RO, which fits a word for all territories. Assumes nothing.
use Rattle.basics.proofs.Common.{◌+◌, ◌*◌, leb, ◌∙◌, arith, least}
use Rattle.guideline.specs.Operational.{RO, general_requirement, operational_numerator, operational_denominator}
use Rattle.guideline.proofs.Charges.{numerator_fits}
use Rattle.operational.proofs.operational.Goals as goal

pub figure_of-requires : goal.figure_of-requires
figure_of-requires c =
    let f = numerator_fits _ _ c.requires in
    omega (arith, c.volume_and_growth.ensures, f.volume_and_growth_fits, f.general_fits)

pub returns : goal.returns
unfolding RO operational_numerator
returns c =
    let general = general_requirement c.args.general.now in
    c.figure_of.ensures ∙ (λ i. least (λ x. leb (c.volume_and_growth.ensures i + 5 * general) (operational_denominator * x)))
