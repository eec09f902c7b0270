-- The credits of blocks 1 to 16 found one after the other, off the places of the blocks' MOR lines; and the test for one above its block's
-- LT(1). Assumes nothing.
use Rattle.basics.proofs.Common.{◌≡◌, ℕ, zero, suc, ◌+◌, ◌-◌, ◌<◌, ◌≤◌, false, ltb, List, length, get_or, set, sym, ap, ◌∙◌, arith, length-set, get_or-set_other, get_or-set_same, ℕ_discrete}
use Rattle.basics.proofs.Common.{Each, sum_to, sum_next}
use Rattle.amount.specs.Amount.{limit}
use Rattle.sizes.specs.Sizes.{non_participating, adjustable_products}
use Rattle.mortality.specs.Credit.{diversification_credit}
use Rattle.mortality.proofs.Credits.{none_with_0}
use Rattle.codes.specs.Codes.{mortality_risk_class, sums_class, dividend_class, Key}
use Rattle.codes.specs.declared.Code.TheVariants.{Rsk, Mor, Crd}
use Rattle.sheet_line.specs.declared.Entry.{Entry}
use Rattle.sheet_line.specs.Rules.{AcceptedLine}
use Rattle.places.specs.Entries.{has_line}
use Rattle.ledger.specs.Numbers.{dividend_credit, adjustable_credit}
use Rattle.places.specs.Places.{tabled}
use Rattle.ledger.proofs.Bounds.{first_most, second_most, none_outside, risk_at}
use Rattle.credits.specs.Credits.{credit_of, credit_above}
use Rattle.ledger.specs.Tables.{TablesHold}
use Rattle.ledger.proofs.Tables.{amount_is}

-- the first i of them
pub record CreditsTo (es : List Entry) (i : ℕ) (credits : List ℕ) : Type 0 where
  pub found : (k : ℕ) → k < i → get_or credits k 0 ≡ credit_of es (k + 1)
  pub long : length credits ≡ non_participating

-- a place of blocks 1 to 16
pub mortality_key : (i : ℕ) → i < non_participating → Key Mor (i + 1) sums_class
mortality_key i h = record { low = omega arith; high = omega arith; one = omega arith; most = omega arith }

pub trend_key : (i : ℕ) → i < non_participating → Key Rsk (i + 1) mortality_risk_class
trend_key i h = record { low = omega arith; high = omega arith; one = omega arith; most = omega arith }

dividend_low : (b : ℕ) → 1 ≤ b → Key Crd b dividend_class → non_participating < b
dividend_low zero h v = absurd (omega arith)
dividend_low (suc b) h v = v.low

pub adjustable_key : (c : ℕ) → 1 ≤ c → c ≤ adjustable_products → Key Crd 0 c
adjustable_key c h l = record { low = omega arith; high = omega arith; one = h; most = l }

module _ {es : List Entry} {f s m : List ℕ} (H : TablesHold es f s m) {i : ℕ} (h : i < non_participating) where
  -- S and T are amounts
  pub sums_most : (tabled f Mor (i + 1) sums_class ≤ limit) × (tabled s Mor (i + 1) sums_class ≤ limit)
  sums_most =
      let e = amount_is H Mor (i + 1) sums_class (mortality_key i h) in
      rw (e.0, e.1) (first_most es H.lines Mor (i + 1) sums_class, second_most es H.lines Mor (i + 1) sums_class)

  pub next_credit : {credits : List ℕ} → CreditsTo es i credits → (c : ℕ) → c ≡ diversification_credit (tabled f Mor (i + 1) sums_class) (tabled s Mor (i + 1) sums_class)
      → CreditsTo es (i + 1) (set credits i c)
  unfolding credit_of
  next_credit {credits} w c e =
      let t = amount_is H Mor (i + 1) sums_class (mortality_key i h) in
      let o : i < length credits = omega (arith, w.long) in
      record {
        found =
            λ k l.
            elim (ℕ_discrete k i) [
              | yes q ↦ rw q (get_or-set_same credits i c 0 o) ∙ e ∙ rw (t.0, t.1, q)
              | no q ↦ get_or-set_other credits i k c 0 q ∙ w.found k (omega arith)
            ];
        long = length-set credits i c ∙ w.long;
      }

  -- the test of rule 16 as code makes it
  pub above_is : (l c : ℕ) → l ≡ tabled s Rsk (i + 1) mortality_risk_class → c ≡ credit_of es (i + 1) → credit_above es (i + 1) ≡ ltb l c
  unfolding credit_above
  above_is l c p q =
      let t = p ∙ (amount_is H Rsk (i + 1) mortality_risk_class (trend_key i h)).1 ∙ sym (risk_at es H.lines (i + 1) 0 (omega arith)).1 in
      rw (t, q)

-- the credits of adjustable products, one more
pub next_adjustable : {es : List Entry} {f s m : List ℕ} (H : TablesHold es f s m) {i sum a : ℕ} → i < adjustable_products → sum ≡ sum_to (adjustable_credit es) i
    → a ≡ tabled f Crd 0 (i + 1) → sum + a ≡ sum_to (adjustable_credit es) (i + 1)
next_adjustable {es} H {i} h p q =
    let e : i + 1 - 1 ≡ i = omega arith in
    (λ k. p k + (q ∙ (amount_is H Crd 0 (i + 1) (adjustable_key (i + 1) (omega arith) (omega arith))).0) k)
    ∙ sym (sum_next (adjustable_credit es) (i + 1) (omega arith) ∙ rw e)

-- a participating block has none
pub participating_none : (es : List Entry) → Each AcceptedLine es → (b : ℕ) → non_participating < b → credit_of es b ≡ 0
unfolding credit_of
participating_none es all b h =
    let z = none_outside es all Mor b sums_class (λ v. omega (arith, v.high)) in
    rw (z.0, z.1) (none_with_0 0 (omega arith))

-- a block without participation has no dividend credit
pub no_dividend : (es : List Entry) → Each AcceptedLine es → (b : ℕ) → b ≤ non_participating → 1 ≤ b → (dividend_credit es b ≡ 0) × (has_line es Crd b dividend_class ≡ false)
no_dividend es all b h l =
    let z = none_outside es all Crd b dividend_class (λ v. omega (arith, dividend_low b l v)) in
    (z.0, ap (λ (m : ℕ). ltb 0 m) z.2)
