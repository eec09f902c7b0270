-- Volume and growth of the classes of a territory, one class more: as code adds them up off the tables. Assumes nothing.
use Rattle.basics.proofs.Common.{◌≡◌, ℕ, ◌+◌, ◌-◌, ◌*◌, ◌/◌, ◌%◌, ◌<◌, ◌≤◌, List, length, get_or, ap, ◌∙◌, arith, Each}
use Rattle.amount.specs.Amount.{limit}
use Rattle.sizes.specs.Sizes.{territories, volume_classes, volume_pairs}
use Rattle.guideline.specs.Operational.{volume_factors, largest_factor, factor_of, current, prior, volume, growth, charged}
use Rattle.guideline.proofs.Charges.{charged_all, charged_more, charged_fits, most_charged, factor_most}
use Rattle.codes.specs.Codes.{Key}
use Rattle.codes.specs.declared.Code.TheVariants.{Vol, Acq}
use Rattle.sheet_line.specs.Rules.{AcceptedLine}
use Rattle.sheet_line.specs.declared.Entry.{Entry}
use Rattle.places.specs.Places.{tabled}
use Rattle.ledger.specs.Numbers.{volumes_of}
use Rattle.ledger.specs.Tables.{TablesHold}
use Rattle.ledger.proofs.Bounds.{length_volumes, volume_at, volumes_most}
use Rattle.ledger.proofs.Tables.{volume_is}

-- a class of a territory, both counted from 0
pub volume_key : (t i : ℕ) → t < territories → i < volume_classes → Key Vol (t + 1) (i + 1)
volume_key t i h l = record { low = omega arith; high = omega arith; one = omega arith; most = omega arith }

-- what all are charged
pub all_charged : (es : List Entry) → Each AcceptedLine es → charged (volumes_of es) volume_pairs ≡ 5 * volume (volumes_of es) + growth (volumes_of es)
all_charged es all =
    let e : volume_pairs ≡ length (volumes_of es) / 2 = omega (arith, length_volumes es all) in
    ap (charged (volumes_of es)) e ∙ charged_all (volumes_of es)

module _ {es : List Entry} {f s m : List ℕ} (H : TablesHold es f s m) {t i : ℕ} (h : t < territories) (l : i < volume_classes) where
  abbrev pair : ℕ
  pair = volume_classes * t + i

  -- its factor, and its volumes
  record Volume (w x y : ℕ) : Type 0 where
    factor : w ≡ factor_of pair
    now : x ≡ current (volumes_of es) pair
    before : y ≡ prior (volumes_of es) pair

  volume_off : {w x y : ℕ} → w ≡ get_or volume_factors i 0 → x ≡ tabled f Vol (t + 1) (i + 1)
      → y ≡ tabled s Vol (t + 1) (i + 1) + tabled f Acq (t + 1) (i + 1) → Volume w x y
  volume_off p q r =
      let d : pair / volume_classes + 1 ≡ t + 1 = omega arith in
      let c : pair % volume_classes + 1 ≡ i + 1 = omega arith in
      let n : pair % volume_classes ≡ i = omega arith in
      let v = rw (d, c) at (volume_at es H.lines pair (omega arith)) in
      let o = volume_is H (t + 1) (i + 1) (volume_key t i h l) in
      record { factor = rw n p; now = omega (arith, q, o.0, v.0); before = omega (arith, r, o.1, v.1) }

  module _ {w x y : ℕ} (p : w ≡ get_or volume_factors i 0) (q : x ≡ tabled f Vol (t + 1) (i + 1))
      (r : y ≡ tabled s Vol (t + 1) (i + 1) + tabled f Acq (t + 1) (i + 1)) where
    pub within : (w ≤ largest_factor) × (x ≤ limit) × (y ≤ 2 * limit)
    within =
        let v = volume_off p q r in
        let b = volumes_most es H.lines pair in
        rw (v.factor, v.now, v.before) (factor_most pair, b.0, b.1)

    pub one_charged : (sum z : ℕ) → sum ≡ charged (volumes_of es) pair → z ≡ w * (5 * x + (5 * x - 6 * y)) → sum + z ≡ charged (volumes_of es) (volume_classes * t + (i + 1))
    one_charged sum z a e =
        let v = volume_off p q r in
        let g = e ∙ (λ j. v.factor j * (5 * v.now j + (5 * v.now j - 6 * v.before j))) in
        let n : pair + 1 ≡ volume_classes * t + (i + 1) = omega arith in
        rw (← n) (omega (arith, a, g, charged_more (volumes_of es) pair))

    -- without a current volume a class is charged nothing
    pub none_charged : (sum : ℕ) → sum ≡ charged (volumes_of es) pair → x ≡ 0 → sum ≡ charged (volumes_of es) (volume_classes * t + (i + 1))
    none_charged sum a z =
        let e : 5 * x + (5 * x - 6 * y) ≡ 0 = omega (arith, z) in
        let n : 0 ≡ w * (5 * x + (5 * x - 6 * y)) = rw e (omega arith) in
        omega (arith, one_charged sum 0 a n)

  pub charged_small : charged (volumes_of es) (volume_classes * t + (i + 1)) ≤ most_charged
  charged_small = charged_fits (volumes_of es) (λ k. (volumes_most es H.lines k).0) (volume_classes * t + (i + 1)) (omega arith)
