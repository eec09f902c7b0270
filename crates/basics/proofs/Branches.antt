-- A branch on a test is that side of the choice by the test, by the fact that the branch gives: what `search tests` goes by. Assumes nothing.
use Rattle.std.proofs.Common.{◌≡◌, ℕ, ◌<◌, ◌≤◌, Bool, true, false, not, eqb, ltb, sym, ◌∙◌, rules}
use borrow.Author.Tests.{not-true, not-false}
use Rattle.basics.specs.Pick.{pick}
use Rattle.basics.proofs.Picks.{if_true, if_false, if_eq, if_ne, if_lt, if_ge}

module _ {ℓ} {A : Type ℓ} (x y z : A) where
  pub side_true : (t r : Bool) → r ≡ t → r ≡ true → z ≡ x → z ≡ pick t x y
  side_true t r e h q = q ∙ sym (if_true y (sym e ∙ h))

  pub side_false : (t r : Bool) → r ≡ t → r ≡ false → z ≡ y → z ≡ pick t x y
  side_false t r e h q = q ∙ sym (if_false x (sym e ∙ h))

  pub side_not : (t r : Bool) → r ≡ t → not r ≡ true → z ≡ y → z ≡ pick t x y
  side_not t r e h q = side_false t r e (not-true _ h) q

  pub side_not_not : (t r : Bool) → r ≡ t → not r ≡ false → z ≡ x → z ≡ pick t x y
  side_not_not t r e h q = side_true t r e (not-false _ h) q

  pub side_eq : (a b : ℕ) → a ≡ b → z ≡ x → z ≡ pick (eqb a b) x y
  side_eq a b h q = q ∙ sym (if_eq y h)

  pub side_ne : (a b : ℕ) → (a ≡ b → ⊥) → z ≡ y → z ≡ pick (eqb a b) x y
  side_ne a b h q = q ∙ sym (if_ne x h)

  pub side_lt : (a b : ℕ) → a < b → z ≡ x → z ≡ pick (ltb a b) x y
  side_lt a b h q = q ∙ sym (if_lt y h)

  pub side_ge : (a b : ℕ) → b ≤ a → z ≡ y → z ≡ pick (ltb a b) x y
  side_ge a b h q = q ∙ sym (if_ge x h)

pub ruleset tests = (rules, side_true, side_false, side_not, side_not_not, side_eq, side_ne, side_lt, side_ge)
