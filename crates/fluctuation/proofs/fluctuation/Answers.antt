-- The factor that was picked, applied, is the result; the tested list allows each factor below 1. Assumes nothing.
use Rattle.basics.proofs.Common.{◌≡◌, ℕ, Option, sym, ap, ◌∙◌, subst}
use Rattle.fluctuation.specs.Rows.{row_of}
use Rattle.fluctuation.specs.Result.{factored_requirement}
use Rattle.fluctuation.specs.declared.Falling.{Falling}
use Rattle.fluctuation.proofs.Rows.{sound, applied, applied_is, AtMostOne, at_most_one}
use Rattle.fluctuation.proofs.fluctuation.Goals.{After-factor_of}
use Rattle.fluctuation.proofs.fluctuation.Goals as goal

-- the factor that was picked
module _ (c : After-factor_of) where
  abbrev b : ℕ
  b = c.args.requirement

  picked : {f : Option Falling} → c.factor_of.result ≡ f → applied b f ≡ factored_requirement (row_of c.args.row) b c.args.face
  picked e = ap (applied b) (sym e ∙ c.factor_of.ensures) ∙ applied_is _ _ _

  allowed : {f : Option Falling} → c.factor_of.result ≡ f → AtMostOne b f
  allowed e =
      let p = c.requires in
      let most = at_most_one _ (sound _ p.first_row p.last_row) _ _ p.requirement p.face_within in
      subst (AtMostOne b) (sym c.factor_of.ensures ∙ e) most

pub times_factor-requires : goal.times_factor-requires
times_factor-requires c = allowed (goal.at.times_factor-requires c).After-factor_of c.in-Some.is

pub returns-in-None : goal.returns-in-None
returns-in-None c = picked (goal.at.returns-in-None c).After-factor_of c.in-None.is

pub returns-in-Some : goal.returns-in-Some
returns-in-Some c = c.times_factor.ensures ∙ picked (goal.at.returns-in-Some c).After-factor_of c.in-Some.is
