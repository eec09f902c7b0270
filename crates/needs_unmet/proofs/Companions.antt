-- What tables are asked for: the RSK lines of a block, and a companion, which a line that tables can hold has. Assumes nothing.
use Rattle.basics.proofs.Common.{◌≡◌, ℕ, ◌≤◌, Bool, true, false, not, Some, Option, sym, refl, ap, ◌∙◌, arith, eqb-false, if_true, if_false, by_test, never}
use Rattle.sizes.specs.Sizes.{blocks}
use Rattle.codes.specs.Codes.{risk_classes, mortality_risk_class, guarantee_class, Key}
use Rattle.codes.specs.declared.Code.{Code, TheVariants.Rsk, TheVariants.Oth, TheVariants.Mor, TheVariants.Vol, TheVariants.Acq, TheVariants.Gen, TheVariants.Crd}
use Rattle.codes.proofs.Table.{block_most}
use Rattle.needs.specs.Needs.{label, volume_need, credit_need, need_for, need_of, companion_serves, met, all_zero, unmet_with, unmet_by}
use Rattle.needs.specs.declared.Label.{Label}
use Rattle.needs_unmet.specs.Companions.{HasPlace}

-- ---- the RSK lines of a block

pub risk_key : (b c : ℕ) → (1 ≤ b) × (b ≤ blocks) → 1 ≤ c → c ≤ risk_classes → Key Rsk b c
risk_key b c h l k = record { low = h.0; high = h.1; one = l; most = k }

-- ---- a companion

module _ {m : Label} where
  volume_placed : (c : ℕ) → volume_need c ≡ Some m → HasPlace m
  unfolding volume_need
  volume_placed c =
      by_test (λ n. n ≡ Some m → HasPlace m) _ _ _
      (λ t q.
      let e : label Gen 0 guarantee_class ≡ m = cc in
      rw (← e) (record { a_block = λ z. absurd (omega arith); a_class = λ z. record { low = omega arith; high = omega arith; one = omega arith; most = omega arith } }))
      (λ t q. never (cc))

  credit_placed : (b c : ℕ) → Key Crd b c → credit_need b ≡ Some m → HasPlace m
  unfolding credit_need
  credit_placed b c v =
      by_test (λ n. n ≡ Some m → HasPlace m) _ _ _ (λ t q. never (cc))
      (λ t q.
      let e : label Rsk b 0 ≡ m = cc in
      let n = eqb-false b 0 t in
      rw (← e) (record { a_block = λ z. (omega (arith, n), omega (arith, v.high, block_most Crd b)); a_class = λ z. absurd (z refl) }))

  pub companion_placed : (k : Code) (b c : ℕ) → Key k b c → need_for k b c ≡ Some m → HasPlace m
  companion_placed Rsk b c v q = never (cc)
  companion_placed Oth b c v q = never (cc)
  companion_placed Gen b c v q = never (cc)
  companion_placed Mor b c v q =
      let e : label Rsk b mortality_risk_class ≡ m = cc in
      rw (← e)
      (record {
        a_block = λ z. absurd (omega arith);
        a_class = λ z. record { low = v.low; high = omega (arith, v.high); one = omega arith; most = omega arith };
      })
  companion_placed Vol b c v q = volume_placed c q
  companion_placed Acq b c v q =
      let e : label Vol b c ≡ m = cc in
      rw (← e)
      (record {
        a_block = λ z. absurd (omega (arith, z, v.one));
        a_class = λ z. record { low = v.low; high = v.high; one = v.one; most = v.most };
      })
  companion_placed Crd b c v q = credit_placed b c v q

-- ---- whether a line's need is unmet, test by test

module _ (first second : Code → ℕ → ℕ → ℕ) (l : Label) {x y : ℕ} (p : x ≡ first l.code l.block l.class) (q : y ≡ second l.code l.block l.class) where
  pub all_zero_met : all_zero x y ≡ true → false ≡ unmet_by first second l
  unfolding unmet_with
  all_zero_met z = sym (if_true _ (rw (p, q) at z))

  pub companion_met : {m : Label} {t : Bool} → all_zero x y ≡ false → need_of l ≡ Some m → t ≡ companion_serves first m → not t ≡ unmet_by first second l
  unfolding unmet_with
  companion_met z w u = sym (if_false _ (rw (p, q) at z) ∙ ap (λ (v : Option Label). not (met first v)) w ∙ ap not (sym u))
