-- The lines that can need another, by their number: their keys rise, each has a block and a class of its code, and every line that needs something is
-- one of them. Assumes nothing.
-- In order: which line has a number; their keys rise; each has a block and a class of its code; what two of them need; every line that needs
-- something is one of them.
use Rattle.basics.proofs.Common.{◌≡◌, ℕ, zero, suc, ◌+◌, ◌-◌, ◌*◌, ◌/◌, ◌%◌, ◌<◌, ◌≤◌, Some, refl, ap, ◌∙◌, arith, ltb-false, ltb-true, eqb-true, ℕ_discrete, dec_lt, pick, if_ne, if_lt, if_ge}
use Rattle.basics.proofs.Common.{by_test, never}
use Rattle.sizes.specs.Sizes.{non_participating, volume_classes}
use Rattle.codes.specs.Codes.{sums_class, segregated_class, dividend_class, guarantee_class, rank, Key}
use Rattle.codes.specs.declared.Code.{Code, TheVariants.Rsk, TheVariants.Oth, TheVariants.Mor, TheVariants.Vol, TheVariants.Acq, TheVariants.Gen, TheVariants.Crd}
use Rattle.order.specs.Order.{order_base, key_of}
use Rattle.places.proofs.Keys.{dividend_key}
use Rattle.needs.specs.Needs.{label, volume_need, credit_need, need_of}
use Rattle.needs.specs.Needing.{last_mor, last_vol, last_acq, most_listed, needing}
use Rattle.needs.specs.declared.Label.{Label}

-- ---- which line has a number

module _ (n : ℕ) where
  pub is_mor : n ≤ last_mor → needing n ≡ label Mor n sums_class
  unfolding needing
  is_mor h =
      let x : n ≤ last_acq = omega arith in
      let y : n ≤ last_vol = omega arith in
      if_ge _ x ∙ if_ge _ y ∙ if_ge _ h

  pub is_vol : last_mor < n → n ≤ last_vol → needing n ≡ label Vol (n - last_mor) segregated_class
  unfolding needing
  is_vol l h =
      let x : n ≤ last_acq = omega arith in
      if_ge _ x ∙ if_ge _ h ∙ if_lt _ l

  pub is_acq : last_vol < n → n ≤ last_acq → needing n ≡ label Acq ((n - last_vol - 1) / volume_classes + 1) ((n - last_vol - 1) % volume_classes + 1)
  unfolding needing
  is_acq l h = if_ge _ h ∙ if_lt _ l

  pub is_crd : last_acq < n → needing n ≡ label Crd (n - last_acq + non_participating) dividend_class
  unfolding needing
  is_crd l = if_lt _ l

-- ---- their keys rise

abbrev pub key_at : ℕ → ℕ
key_at n = let l = needing n in key_of l.code l.block l.class

key_is : (n : ℕ) {b c : ℕ} {k : Code} → needing n ≡ label k b c → key_at n ≡ (rank k * order_base + b) * order_base + c
unfolding key_of
key_is n e = ap (λ (l : Label). key_of l.code l.block l.class) e

-- from each to the next, by the code of both; the last one's next is past every key
next_rises : (n : ℕ) → n < most_listed → key_at (suc n) < key_at (suc (suc n))
next_rises n h =
    let m = suc n in
    elim (dec_lt last_mor (suc m)) [
      | no a ↦ omega (arith, key_is m (is_mor m (omega arith)), key_is (suc m) (is_mor (suc m) (omega arith)))
      | yes a ↦ elim (dec_lt last_mor m) [
        | no b ↦ omega (arith, key_is m (is_mor m (omega arith)), key_is (suc m) (is_vol (suc m) a (omega arith)))
        | yes b ↦ elim (dec_lt last_vol (suc m)) [
          | no c ↦ omega (arith, key_is m (is_vol m b (omega arith)), key_is (suc m) (is_vol (suc m) a (omega arith)))
          | yes c ↦ elim (dec_lt last_vol m) [
            | no d ↦ omega (arith, key_is m (is_vol m b (omega arith)), key_is (suc m) (is_acq (suc m) c (omega arith)))
            | yes d ↦ elim (dec_lt last_acq (suc m)) [
              | no e ↦ omega (arith, key_is m (is_acq m d (omega arith)), key_is (suc m) (is_acq (suc m) c (omega arith)))
              | yes e ↦ elim (dec_lt last_acq m) [
                | no f ↦ omega (arith, key_is m (is_acq m d (omega arith)), key_is (suc m) (is_crd (suc m) e))
                | yes f ↦ omega (arith, key_is m (is_crd m f), key_is (suc m) (is_crd (suc m) e))
              ]
            ]
          ]
        ]
      ]
    ]

pub rises : (m n : ℕ) → m < n → n ≤ most_listed → key_at (suc m) < key_at (suc n)
rises m zero h l = absurd (omega arith)
rises m (suc n) h l =
    elim (ℕ_discrete m n) [
      | yes e ↦ rw e (next_rises n (omega arith))
      | no e ↦ omega (arith, rises m n (omega arith) (omega arith), next_rises n (omega arith))
    ]

-- so a smaller key has a smaller number
pub number_below : (m n : ℕ) → m < most_listed → key_at (suc m) < key_at (suc n) → m < n
number_below m n h l =
    elim (dec_lt m n) [
      | yes y ↦ y
      | no y ↦ elim (ℕ_discrete n m) [
        | yes e ↦ let z : key_at (suc n) ≡ key_at (suc m) = rw e in absurd (omega arith)
        | no e ↦ absurd (omega (arith, rises n m (omega arith) (omega arith)))
      ]
    ]

-- ---- each has a block and a class of its code

abbrev pub Keyed : Label → Type 0
Keyed l = Key l.code l.block l.class

pub keyed : (n : ℕ) → 1 ≤ n → n ≤ most_listed → Keyed (needing n)
unfolding needing
keyed n l h =
    by_test Keyed _ _ _ (λ t. dividend_key (n - last_acq + non_participating) (omega (arith, ltb-true last_acq n t)) (omega arith))
    (λ f.
    by_test Keyed _ _ _ (λ t. record { low = omega arith; high = omega (arith, ltb-false last_acq n f); one = omega arith; most = omega arith })
    (λ g.
    by_test Keyed _ _ _ (λ t. record { low = omega (arith, ltb-true last_mor n t); high = omega (arith, ltb-false last_vol n g); one = omega arith; most = omega arith })
    (λ e. record { low = omega arith; high = omega (arith, ltb-false last_mor n e); one = omega arith; most = omega arith })))

-- ---- what two of them need

pub segregated_need : volume_need segregated_class ≡ Some (label Gen 0 guarantee_class)
unfolding volume_need pick
segregated_need = refl

pub block_need : (b : ℕ) → (b ≡ 0 → ⊥) → credit_need b ≡ Some (label Rsk b 0)
unfolding credit_need
block_need b h = if_ne _ h

-- ---- every line that needs something is one of them

-- a line of a code, block and class, by its number
abbrev pub Placed : Label → Type 0
Placed l = (n : ℕ) × (n < most_listed) × (needing (suc n) ≡ l)

segregated : (c : ℕ) {m : Label} → volume_need c ≡ Some m → c ≡ segregated_class
unfolding volume_need
segregated c {m} = by_test (λ x. x ≡ Some m → c ≡ segregated_class) _ _ _ (λ t q. eqb-true _ _ t) (λ f q. never (cc))

-- the label with other numbers
numbers : (k : Code) {b b' c c' : ℕ} → b ≡ b' → c ≡ c' → label k b c ≡ label k b' c'
numbers k p q = λ i. label k (p i) (q i)

pub placed : (k : Code) (b c : ℕ) {m : Label} → Key k b c → need_of (label k b c) ≡ Some m → Placed (label k b c)
unfolding credit_need pick
placed Rsk b c v q = never (cc)
placed Oth b c v q = never (cc)
placed Gen b c v q = never (cc)
placed Mor b c v q = (b - 1, omega (arith, v.high), is_mor (suc (b - 1)) (omega (arith, v.high)) ∙ numbers Mor (omega (arith, v.low)) (omega (arith, v.one, v.most)))
placed Vol b c v q =
    let e = segregated c q in
    let n = last_mor + (b - 1) in
    (n, omega (arith, v.high), is_vol (suc n) (omega arith) (omega (arith, v.high)) ∙ numbers Vol (omega (arith, v.low)) (omega (arith, e)))
placed Acq b c v q =
    let n = last_vol + (volume_classes * (b - 1) + (c - 1)) in
    let h : suc n ≤ last_acq = omega (arith, v.low, v.high, v.one, v.most) in
    (n, omega arith, is_acq (suc n) (omega arith) h ∙ numbers Acq (omega (arith, v.low, v.one, v.most)) (omega (arith, v.one, v.most)))
placed Crd zero c v q = never (cc)
placed Crd (suc b) c v q =
    let n = last_acq + (b - non_participating) in
    (n, omega (arith, v.high), is_crd (suc n) (omega arith) ∙ numbers Crd (omega (arith, v.low)) (omega (arith, v.one, v.most)))
