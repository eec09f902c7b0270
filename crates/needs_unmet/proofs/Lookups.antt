-- What tables that hold a sheet's lines tell of a need is what the lines do. Assumes nothing.
use Rattle.basics.proofs.Common.{◌≡◌, ℕ, false, not, ltb, List, Some, None, Option, sym, refl, ap, ◌∙◌, ℕ_discrete, pick, any_same, if_eq, if_ne}
use Rattle.codes.specs.Codes.{risk_classes, Key}
use Rattle.codes.specs.declared.Code.TheVariants.{Rsk}
use Rattle.sheet_line.specs.declared.Entry.{Entry}
use Rattle.places.specs.Entries.{lookup, first_of, second_of}
use Rattle.places.specs.Places.{tabled}
use Rattle.ledger.specs.Tables.{TablesHold}
use Rattle.ledger.proofs.Tables.{amount_is}
use Rattle.needs.specs.Needs.{need_of, some_risk, companion_serves, met, all_zero, unmet_with, unmet_by}
use Rattle.needs.specs.declared.Label.{Label}
use Rattle.needs_unmet.specs.Companions.{HasPlace}
use Rattle.needs_unmet.proofs.Companions.{risk_key, companion_placed}

module _ {es : List Entry} {f s m : List ℕ} (H : TablesHold es f s m) where
  same_counts : (l : Label) → HasPlace l → companion_serves (tabled f) l ≡ companion_serves (lookup first_of es) l
  unfolding companion_serves some_risk
  same_counts l a =
      elim (ℕ_discrete l.class 0) [
        | yes e ↦
            if_eq _ e
            ∙ any_same _ _ risk_classes (λ c p q. ap (λ (n : ℕ). ltb 0 n) (amount_is H Rsk l.block c (risk_key l.block c (a.a_block e) p q)).0)
            ∙ sym (if_eq _ e)
        | no e ↦ if_ne _ e ∙ ap (λ (n : ℕ). ltb 0 n) (amount_is H l.code l.block l.class (a.a_class e)).0 ∙ sym (if_ne _ e)
      ]

  same_met : (n : Option Label) → ((l : Label) → n ≡ Some l → HasPlace l) → met (tabled f) n ≡ met (lookup first_of es) n
  same_met None h = refl
  same_met (Some l) h = same_counts l (h l refl)

  pub same_unmet : (l : Label) → Key l.code l.block l.class
      → unmet_by (tabled f) (tabled s) l ≡ unmet_by (lookup first_of es) (lookup second_of es) l
  unfolding unmet_with
  same_unmet l v =
      let a = amount_is H l.code l.block l.class v in
      let w = same_met (need_of l) (λ x q. companion_placed l.code l.block l.class v q) in
      λ j. pick (all_zero (a.0 j) (a.1 j)) false (not (w j))
