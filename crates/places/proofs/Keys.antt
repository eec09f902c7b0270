-- An entry has a code, block and class where the test says so; and lines that were each new when they were read have distinct keys. Assumes nothing.
use Rattle.basics.proofs.Common.{◌≡◌, ℕ, zero, suc, ◌<◌, ◌≤◌, Bool, true, false, ltb, List, [], ◌∷◌, length, get_or, sym, refl, ap, ◌∙◌, arith, eq-eqb, eqb-true, if_true, if_false, if_eq, by_test}
use Rattle.basics.proofs.Common.{never}
use Rattle.sizes.specs.Sizes.{non_participating, blocks}
use Rattle.codes.specs.Codes.{dividend_class, rank, Key}
use Rattle.codes.proofs.Table.{rank_one}
use Rattle.codes.specs.declared.Code.{Code, TheVariants.Crd}
use Rattle.sheet_line.specs.declared.Entry.{Entry}
use Rattle.places.specs.Entries.{has_key, lookup, has_line, SameKey, DistinctKeys}

-- ---- the test for a code, block and class

module _ (k : Code) (b c : ℕ) (e : Entry) where
  pub same_key : has_key k b c e ≡ true → SameKey k b c e
  unfolding has_key
  same_key =
      by_test (λ t. t ≡ true → SameKey k b c e) _ _ _
      (λ p.
      by_test (λ t. t ≡ true → SameKey k b c e) _ _ _
      (λ q r. record { code = rank_one k e.code (eqb-true _ _ p); block = eqb-true _ _ q; class = eqb-true _ _ r })
      (λ q r. never (cc)))
      (λ p r. never (cc))

  pub has_key_lem : SameKey k b c e → has_key k b c e ≡ true
  unfolding has_key
  has_key_lem s = if_eq _ (ap rank s.code) ∙ if_eq _ s.block ∙ eq-eqb _ _ s.class

  pub no_key : (SameKey k b c e → ⊥) → has_key k b c e ≡ false
  no_key n = go (has_key k b c e) refl
    where
      go : (t : Bool) → has_key k b c e ≡ t → t ≡ false
      go true q = absurd (n (same_key q))
      go false q = refl

-- ---- lines that were new when they were read, the last one first

-- no line has the code, block and class of one behind it
abbrev pub New : List Entry → Type 0
New [] = Unit {0}
New (e ∷ es) = (has_line es e.code e.block e.class ≡ false) × New es

module _ (k : Code) (b c : ℕ) where
  -- no place has this code, block and class
  abbrev Nowhere : List Entry → Type 0
  Nowhere es = (d : Entry) (i : ℕ) → i < length es → SameKey k b c (get_or es i d) → ⊥

  nor_before : (e : Entry) (es : List Entry) → has_key k b c e ≡ false → Nowhere es → Nowhere (e ∷ es)
  nor_before e es h n d zero l s = let t = has_key_lem k b c e s in never (cc)
  nor_before e es h n d (suc i) l s = n d i (omega arith) s

  nowhere : (es : List Entry) → has_line es k b c ≡ false → Nowhere es
  unfolding lookup
  nowhere [] = λ h d i l s. absurd (omega arith)
  nowhere (e ∷ es) = by_test (λ m. ltb 0 m ≡ false → Nowhere (e ∷ es)) _ _ _ (λ t h. never (cc)) (λ t h. nor_before e es t (nowhere es h))

pub own_key : (e : Entry) → SameKey e.code e.block e.class e
own_key e = record { code = refl; block = refl; class = refl }

turned : (e f : Entry) → SameKey e.code e.block e.class f → SameKey f.code f.block f.class e
turned e f s = record { code = sym s.code; block = sym s.block; class = sym s.class }

one_place : (es : List Entry) → New es → (d : Entry) (i j : ℕ) → i < length es → j < length es
    → (let e = get_or es i d in SameKey e.code e.block e.class (get_or es j d)) → i ≡ j
one_place [] n d i j h l s = absurd (omega arith)
one_place (e ∷ es) n d zero zero h l s = refl
one_place (e ∷ es) n d zero (suc j) h l s = absurd (nowhere _ _ _ es n.0 d j (omega arith) s)
one_place (e ∷ es) n d (suc i) zero h l s = absurd (nowhere _ _ _ es n.0 d i (omega arith) (turned _ _ s))
one_place (e ∷ es) n d (suc i) (suc j) h l s = ap suc (one_place es n.1 d i j (omega arith) (omega arith) s)

found : (es : List Entry) → New es → (d : Entry) (i : ℕ) → i < length es → (f : Entry → ℕ)
    → let e = get_or es i d in lookup f es e.code e.block e.class ≡ f e
unfolding lookup
found [] n d i h f = absurd (omega arith)
found (e ∷ es) n d zero h f = if_true _ (has_key_lem _ _ _ e (own_key e))
found (e ∷ es) n d (suc i) h f =
    if_false _ (no_key _ _ _ e (λ s. nowhere _ _ _ es n.0 d i (omega arith) (turned _ _ s))) ∙ found es n.1 d i (omega arith) f

pub distinct : (es : List Entry) → New es → DistinctKeys es
distinct es n = record { one_place = one_place es n; found = found es n }

-- ---- a place of CRD

-- a participating block's
pub dividend_key : (b : ℕ) → non_participating < b → b ≤ blocks → Key Crd b dividend_class
dividend_key zero h l = absurd (omega arith)
dividend_key (suc b) h l = record { low = h; high = l; one = omega arith; most = omega arith }
