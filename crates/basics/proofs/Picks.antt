-- A choice by a test, by the fact that a branch of the code gives. Assumes nothing.
use Rattle.std.proofs.Common.{◌≡◌, ℕ, ◌<◌, ◌≤◌, Bool, true, false, eqb, ltb, arith, le-ltb, lt-ltb, eq-eqb, ne_eqb}
use Rattle.basics.specs.Pick.{pick}

module _ {ℓ} {A : Type ℓ} where
  pub if_true : {x : A} (y : A) {b : Bool} → b ≡ true → pick b x y ≡ x
  unfolding pick
  if_true y e = rw e

  pub if_false : (x : A) {y : A} {b : Bool} → b ≡ false → pick b x y ≡ y
  unfolding pick
  if_false x e = rw e

  pub if_eq : {x : A} (y : A) {a b : ℕ} → a ≡ b → pick (eqb a b) x y ≡ x
  if_eq y e = if_true y (eq-eqb _ _ e)

  pub if_ne : (x : A) {y : A} {a b : ℕ} → (a ≡ b → ⊥) → pick (eqb a b) x y ≡ y
  if_ne x e = if_false x (ne_eqb _ _ e)

  pub if_lt : {x : A} (y : A) {a b : ℕ} → a < b → pick (ltb a b) x y ≡ x
  if_lt y e = if_true y (lt-ltb _ _ e)

  pub if_ge : (x : A) {y : A} {a b : ℕ} → b ≤ a → pick (ltb a b) x y ≡ y
  if_ge x e = if_false x (le-ltb _ _ e)

  -- what holds of each side where its test does holds of the choice
  pub by_test : (P : A → Type 0) (t : Bool) (a b : A) → (t ≡ true → P a) → (t ≡ false → P b) → P (pick t a b)
  unfolding pick
  by_test P t a b h k = grind arith

-- what follows where two constructors would be equal: `cc` makes the premise of that
pub never {ℓ} : {A : Type ℓ} → ◌≡◌ {A = ℕ} 0 1 → A
never e = absurd (let z : ⊥ = omega arith in z)

-- two tests one after the other that both hold
pub both : (s : Bool) {t : Bool} → pick s t false ≡ true → (s ≡ true) × (t ≡ true)
both s {t} = by_test (λ x. x ≡ true → (s ≡ true) × (t ≡ true)) s _ _ (λ p q. (p, q)) (λ p q. never (cc))
