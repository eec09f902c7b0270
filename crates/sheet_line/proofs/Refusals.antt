-- The rules that a line is refused by: a step for each rule. Assumes nothing.
use Rattle.basics.proofs.Common.{◌≡◌, ℕ, true, false, eqb, ltb, List, Some, None, Err, Option, Result, refl, subst, by_test, never}
use Rattle.refusal.specs.Outcome.{rule_number, Judging, judging}
use Rattle.refusal.specs.declared.Rule.{Rule}
use Rattle.refusal.specs.declared.Rule.TheVariants as rule
use Rattle.codes.specs.Codes.{code_of}
use Rattle.codes.specs.declared.Code.{Code}
use Rattle.layout.specs.Columns.{layout_of}
use Rattle.layout.specs.declared.Numbers.{Numbers}
use Rattle.sheet_line.specs.Rules.{rule3, rule5, rule6, rule8, rule9, rule10, entry_of, parse_line}
use Rattle.sheet_line.specs.declared.Entry.{Entry}

module _ (r : Rule) where
  -- where a line is refused by r, r has a number that judging a sheet refuses by
  abbrev Judges : Result Entry Rule → Type 0
  Judges l = l ≡ Err r → Judging (rule_number r)

  judges : (m : Rule) → eqb (rule_number m) 0 ≡ false → eqb (rule_number m) 14 ≡ false → ltb (rule_number m) 100 ≡ true → Judges (Err m)
  judges m z w h q = let e : m ≡ r = cc in subst (λ x. Judging (rule_number x)) e (judging (rule_number m) z w h)

  rules_judge : (e : Entry) → Judges (rule5 e)
  unfolding rule5 rule6 rule8 rule9 rule10
  rules_judge e =
      by_test Judges _ _ _ (λ t. judges rule.BlockOutside refl refl refl) λ t.
      by_test Judges _ _ _ (λ t. judges rule.ClassOutside refl refl refl) λ t.
      by_test Judges _ _ _ (λ t. judges rule.SecondAmount refl refl refl) λ t.
      by_test Judges _ _ _ (λ t. judges rule.TrendAboveComponent refl refl refl) λ t.
      by_test Judges _ _ _ (λ t. judges rule.ScalarOutside refl refl refl) (λ t q. never (cc))

  all_judge : (l : Option Numbers) (c : Option Code) → Judges (rule3 l c)
  all_judge None c = judges rule.BrokenLayout refl refl refl
  all_judge (Some m) None = judges rule.UnknownCode refl refl refl
  all_judge (Some m) (Some k) = rules_judge (entry_of k m)

-- the number of a line's rule is never 0 and never 14, and has two digits at most
pub line_judging : (s : List ℕ) (r : Rule) → parse_line s ≡ Err r → Judging (rule_number r)
unfolding parse_line
line_judging s r q = all_judge r (layout_of s) (code_of s) q
