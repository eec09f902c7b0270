-- The aggregate reaches its radicand and is at most S + T, so the credit is at or below the exact one and less than a cent below it; the radicand
-- as code makes it; no credit where one of the sums is 0. Assumes nothing.
use Rattle.basics.proofs.Common.{◌≡◌, ℕ, ◌+◌, ◌-◌, ◌*◌, ◌/◌, ◌≤◌, leb, ◌∙◌, mul-le-mul, arith, dec_le, least, LeastOf, least_of, le_of_squares, leb_same}
use Rattle.amount.specs.Amount.{limit}
use Rattle.accuracy.specs.Fraction.{whole}
use Rattle.guideline.proofs.Bounds.{twice}
use Rattle.accuracy.proofs.Fractions.{square_is}
use Rattle.mortality.specs.Credit.{twice_radicand, aggregated, AggregateLeast, diversification_credit, AtOrBelowCredit, CreditDemand}

-- twice the radicand and 3 × S × T are 2S² + 2T²
made_up : (s t : ℕ) → twice_radicand s t + 3 * (s * t) ≡ 2 * (s * s) + 2 * (t * t)
unfolding twice_radicand
made_up s t = omega (arith, twice s t)

module _ (s t : ℕ) (a : s ≤ limit) (b : t ≤ limit) where
  pub aggregated_least : AggregateLeast s t
  unfolding aggregated
  aggregated_least =
      let l : LeastOf (twice_radicand s t) _ (aggregated s t) =
      least_of (twice_radicand s t) _ (λ m k h. omega (arith, mul-le-mul h h)) (s + t) (omega arith) (omega (arith, made_up s t)) in
      record { reaches = omega (arith, l.reaches); first = λ m h. l.first m (omega arith) }

  pub aggregated_most : aggregated s t ≤ s + t
  aggregated_most = aggregated_least.first (s + t) (omega (arith, made_up s t))

  -- the credit and the aggregate are S + T: none of it is cut
  pub shared : diversification_credit s t + aggregated s t ≡ s + t
  unfolding diversification_credit
  shared = omega (arith, aggregated_most)

  -- the square of S + T less the credit is that of the aggregate, and S + T less the credit and a cent falls short of the radicand
  pub credit_demand : CreditDemand s t (diversification_credit s t)
  credit_demand =
      record {
        at =
            record {
              within = omega (arith, shared);
              square = omega (arith, aggregated_least.reaches, square_is (s + t) (diversification_credit s t) (aggregated s t) (omega (arith, shared)));
            };
        near = λ h. short h (dec_le 1 (aggregated s t));
      }
    where
      short : AtOrBelowCredit s t (whole (diversification_credit s t + 1) 0) → Dec (1 ≤ aggregated s t) → ⊥
      short h (yes p) =
          let m = aggregated s t - 1 in
          let e = square_is (s + t) (diversification_credit s t + 1) m (omega (arith, shared)) in
          omega (arith, aggregated_least.first m (omega (arith, h.square)))
      short h (no p) = omega (arith, h.within, shared)

-- ---- as code finds them

-- four times the radicand, by how far S and T are apart
pub fourfold : (s t d p r : ℕ) → d ≡ s - t + (t - s) → p ≡ 2 * d * (2 * d) → r ≡ 2 * s * t → p + r ≡ 2 * twice_radicand s t
fourfold s t d p r e f g = either (dec_le s t)
  where
    either : Dec (s ≤ t) → p + r ≡ 2 * twice_radicand s t
    either (yes h) = let z : t ≡ s + d = omega arith in omega (arith, made_up s t, square_is t s d z)
    either (no h) = let z : s ≡ t + d = omega arith in omega (arith, made_up s t, square_is s t d z)

pub aggregated_found : (s t n r : ℕ) → n ≡ (2 * twice_radicand s t + 3) / 4 → r ≡ least (λ x. leb n (x * x)) → r ≡ aggregated s t
unfolding aggregated
aggregated_found s t n r e f = f ∙ (λ i. least (λ x. same (x * x) i))
  where
    same : (m : ℕ) → leb n m ≡ leb (twice_radicand s t) (2 * m)
    same m = leb_same n m (twice_radicand s t) (2 * m) (λ h. omega arith) (λ h. omega arith)

pub none_with_0 : (t : ℕ) → t ≤ limit → diversification_credit 0 t ≡ 0
none_with_0 t b =
    let l = aggregated_least 0 t (omega arith) b in
    omega (arith, shared 0 t (omega arith) b, le_of_squares t (aggregated 0 t) (omega (arith, l.reaches, made_up 0 t)))

pub credit_turned : (s t : ℕ) → diversification_credit s t ≡ diversification_credit t s
unfolding diversification_credit aggregated
credit_turned s t =
    let sums : s + t ≡ t + s = omega arith in
    let radicands : twice_radicand s t ≡ twice_radicand t s = omega (arith, made_up s t, made_up t s) in
    λ i. sums i - least (λ n. leb (radicands i) (2 * (n * n)))
