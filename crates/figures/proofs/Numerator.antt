-- K in tenths of a cent, as the code makes it: 8U + LT, and a tenth of M over V and then over 6,000, each time rounded up. Assumes nothing.
use Rattle.basics.proofs.Common.{◌≡◌, ℕ, ◌+◌, ◌-◌, ◌*◌, ◌/◌, ◌^◌, ◌<◌, ◌≤◌, leb, List, sym, ap, ◌∙◌, mul-le-mul, mul-le-mul_left, arith, le_of_mul-le-mul_left, least, LeastOf, least_of, ceil_eq}
use Rattle.basics.proofs.Common.{leb_same}
use Rattle.sizes.specs.Sizes.{fineness}
use Rattle.guideline.specs.Block.{AcceptedBlock, U, LT, Vh, fine_d, K, M, fine_numerator, requirement}
use Rattle.guideline.proofs.Bounds.{factored}
use Rattle.guideline.proofs.Figures.{requirement_some, v_is, u_high, u_fits, fine_d_high, fine_d_third}
use Rattle.figures.specs.Parts.{FigureBounds}

-- 60 × V is so many times V in cents, and 7V / 10 so many
abbrev pub over_v : ℕ
over_v = 60 * fineness

abbrev pub seven_tenths : ℕ
seven_tenths = 7 * fineness / 10

-- a tenth of M
abbrev pub tenth_of_m : (v d : ℕ) → ℕ
tenth_of_m v d = (3 * d - fineness * v) * (d - seven_tenths * v)

module _ (u l d : ℕ) (s : FigureBounds u l d) where
  abbrev v : ℕ
  v = 2 * u - l

  m_is : M (fineness * v) d ≡ 10 * tenth_of_m v d
  m_is =
      let e : 10 * d - 7 * (fineness * v) ≡ 10 * (d - seven_tenths * v) = omega arith in
      omega (arith, factored (fineness * v) d s.third, ap (λ (x : ℕ). (3 * d - fineness * v) * x) e)

  numerator_is : fine_numerator u l v d ≡ 10 * (over_v * (v * (8 * u + l)) + tenth_of_m v d)
  numerator_is = omega (arith, m_is)

  m_within : tenth_of_m v d ≤ v * (over_v * v)
  m_within =
      let h : 3 * d - fineness * v ≤ 200 * v = omega (arith, s.high) in
      let k : d - seven_tenths * v ≤ 30 * v = omega (arith, s.high) in
      omega (arith, mul-le-mul h k)

  -- over V it fits a word
  pub m_fits : tenth_of_m v d ≤ v * (2 ^ 64 - 1)
  m_fits =
      let h : over_v * v ≤ 2 ^ 64 - 1 = omega (arith, s.within, s.small) in
      omega (arith, m_within, mul-le-mul_left v h)

  -- q is a tenth of M over V, w what that is over 6,000
  module _ (some : 0 < u) (q w : ℕ) (by_v : q ≡ least (λ x. leb (tenth_of_m v d) (v * x))) (up : q ≤ over_v * w) (near : over_v * w < q + over_v) where
    law : LeastOf (tenth_of_m v d) (λ x. v * x) q
    law = rw by_v (least_of (tenth_of_m v d) (λ x. v * x) (λ m k le. mul-le-mul_left v le) (over_v * v) (omega (arith, s.within, s.small)) m_within)

    reached : (t : ℕ) → w ≤ t → tenth_of_m v d ≤ over_v * (v * t)
    reached t h =
        let k : q ≤ over_v * t = omega (arith, up) in
        omega (arith, law.reaches, mul-le-mul_left v k)

    first : (t : ℕ) → tenth_of_m v d ≤ over_v * (v * t) → w ≤ t
    first t h = omega (arith, near, law.first (over_v * t) (omega (arith, h)))

    pub tenths_within : w ≤ v
    tenths_within = first v (omega (arith, m_within))

    -- K's test in tenths of a cent
    same : (k : ℕ) → leb (fine_numerator u l v d) (60 * (fineness * v * (fineness * k))) ≡ leb (8 * u + l + w) (10 * k)
    same k = leb_same _ _ _ _ to from
      where
        to : fine_numerator u l v d ≤ 60 * (fineness * v * (fineness * k)) → 8 * u + l + w ≤ 10 * k
        to h =
            let b : 8 * u + l ≤ 10 * k = le_of_mul-le-mul_left {k = v} (omega (arith, h, numerator_is)) (omega (arith, some, s.within)) in
            let t : ℕ = 10 * k - (8 * u + l) in
            let e : 10 * k ≡ 8 * u + l + t = omega (arith, b) in
            omega (arith, b, first t (omega (arith, h, numerator_is, ap (λ (x : ℕ). v * x) e)))

        from : 8 * u + l + w ≤ 10 * k → fine_numerator u l v d ≤ 60 * (fineness * v * (fineness * k))
        from h =
            let t : ℕ = 10 * k - (8 * u + l) in
            let e : 10 * k ≡ 8 * u + l + t = omega (arith, h) in
            omega (arith, numerator_is, reached t (omega (arith, h)), ap (λ (x : ℕ). v * x) e)

    pub requirement_is : (k : ℕ) → 8 * u + l + w ≤ 10 * k → 10 * k < 8 * u + l + w + 10 → k ≡ requirement u l v d
    requirement_is k h r =
        sym (requirement_some u l v d some ∙ (λ i. least (λ k. same k i)) ∙ ceil_eq (8 * u + l + w) 10 k (omega (arith, r, tenths_within, s.within, s.small)) h r)

-- an accepted block's figures
pub bounded : (b : List ℕ) → AcceptedBlock b → (u l d : ℕ) → u ≡ U b → l ≡ LT b → d ≡ fine_d b → FigureBounds u l d
unfolding Vh
bounded b h u l d e f g =
    record {
      within = omega (arith, u_high b h, v_is b h);
      small = omega (arith, u_fits b h);
      third = omega (arith, fine_d_third b h);
      high = omega (arith, fine_d_high b h);
    }

pub adjusted_found : (b : List ℕ) (u l d k : ℕ) → u ≡ U b → l ≡ LT b → d ≡ fine_d b → k ≡ requirement u l (2 * u - l) d → k ≡ K b
unfolding K Vh
adjusted_found b u l d k e f g r = r ∙ (λ i. requirement (e i) (f i) (2 * e i - f i) (g i))
