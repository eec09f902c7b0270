-- What admits a line after others: of an admitted one that it did not stand before and comes after the last, of a refused one that its rule
-- has a number of those that judging refuses by. Assumes nothing.
use Rattle.basics.proofs.Common.{◌≡◌, ℕ, ◌<◌, ◌≤◌, Bool, false, List, get_or, set, Ok, Err, Result, sym, refl, ◌∙◌, subst, ltb-true, if_lt, if_ge, by_test, never}
use Rattle.refusal.specs.Outcome.{rule_number, Judging, judging}
use Rattle.refusal.specs.declared.Rule.{Rule}
use Rattle.refusal.specs.declared.Rule.TheVariants as rule
use Rattle.sheet_line.specs.declared.Entry.{Entry}
use Rattle.order.specs.Order.{key_for, rule11, rule19, admitted, Admits}
use Rattle.places.specs.Places.{index_for}

module _ (stood : Entry → Bool) (last : ℕ) where
  -- what an admitted line says of the one that was read: it is that one, did not stand before and comes after the last
  pub record Admitted (l : Result Entry Rule) (e : Entry) : Type 0 where
    pub read : l ≡ Ok e
    pub new : stood e ≡ false
    pub after : last < key_for e

  pub good_admitted : (l : Result Entry Rule) (e : Entry) → admitted stood last l ≡ Ok e → Admitted l e
  unfolding rule11 rule19
  good_admitted (Err r) e = λ q. never (cc)
  good_admitted (Ok d) e =
      by_test (λ l. l ≡ Ok e → Admitted (Ok d) e) _ _ _ (λ t q. never (cc)) λ t.
      by_test (λ l. l ≡ Ok e → Admitted (Ok d) e) _ _ _
      (λ u q. let x : d ≡ e = cc in record { read = rw x; new = rw x at t; after = rw x at (ltb-true last (key_for d) u) }) (λ u q. never (cc))

  pub refused_admitted : (l : Result Entry Rule) → ((r : Rule) → l ≡ Err r → Judging (rule_number r)) → (r : Rule)
      → admitted stood last l ≡ Err r → Judging (rule_number r)
  unfolding rule11 rule19
  refused_admitted (Err n) j r = j r
  refused_admitted (Ok d) j r =
      by_test (λ l. l ≡ Err r → Judging (rule_number r)) _ _ _
      (λ t q. let e : rule.LineRepeated ≡ r = cc in subst (λ x. Judging (rule_number x)) e (judging 11 refl refl refl)) λ t.
      by_test (λ l. l ≡ Err r → Judging (rule_number r)) _ _ _ (λ u q. never (cc))
      (λ u q. let e : rule.OutOfOrder ≡ r = cc in subst (λ x. Judging (rule_number x)) e (judging 19 refl refl refl))

-- ---- a line after those that the marks and the last key tell of

module _ (e : Entry) (last : ℕ) (m : List ℕ) {at k : ℕ} (p : at ≡ index_for e) (c : k ≡ key_for e) where
  pub stands_marked : 0 < get_or m at 0 → Admits (Ok e) last m (Err rule.LineRepeated) m
  unfolding rule11
  stands_marked h = record { line = sym (if_lt _ (rw p at h)); marks = refl }

  module _ (z : get_or m at 0 ≤ 0) where
    pub comes_before : k ≤ last → Admits (Ok e) last m (Err rule.OutOfOrder) m
    unfolding rule11 rule19
    comes_before h = record { line = sym (if_ge _ (rw p at z) ∙ if_ge _ (rw c at h)); marks = refl }

    pub comes_after : last < k → Admits (Ok e) last m (Ok e) (set m at 1)
    unfolding rule11 rule19
    comes_after h = record { line = sym (if_ge _ (rw p at z) ∙ if_lt _ (rw c at h)); marks = rw p }
