-- The rows: what is tested of the list, once, and what a row picks. Assumes nothing.
-- In order: what is tested of the list; what a row picks, up to its threshold and above; a factor that is at most 1.
use Rattle.basics.proofs.Common.{◌≡◌, ℕ, zero, suc, ◌-◌, ◌*◌, ◌<◌, ◌≤◌, Bool, true, false, ltb, Some, None, Option, sym, refl, mul-le-mul_left, arith, ltb-true, least, pick, each_at, if_lt, if_ge}
use Rattle.basics.proofs.Common.{by_test}
use Rattle.amount.specs.Amount.{limit}
use Rattle.fluctuation.specs.Rows.{Base, Row, rows, row_count, row_of, amount_of, base_of}
use Rattle.fluctuation.specs.Result.{scale, reaches, factored_requirement}
use Rattle.fluctuation.specs.Parts.{factor_for, Falls}
use Rattle.fluctuation.specs.declared.Falling.{Falling}

-- ---- what is tested of the list

-- a row whose factor, with the root, is at most 1 at its threshold, and there at least 0.9996: 'The print lost the root sign; the
-- thresholds show it'
pub record Sound (w : Row) : Type 0 where
  pub first_small : w.first ≤ 20
  pub second_small : w.second ≤ 14722
  pub nearly_one : (500 * (20 - w.first) - 4) * (500 * (20 - w.first) - 4) * w.threshold ≤ 10000 * w.second * (10000 * w.second)
  pub at_threshold : scale * (w.second * w.second) ≤ (20 - w.first) * (20 - w.first) * (100 * w.threshold)

-- of every row of the list, and of what stands for any other number
pub sound : (n : ℕ) → 1 ≤ n → n ≤ row_count → Sound (row_of n)
unfolding row_of rows
sound zero h k = absurd (omega arith)
sound (suc n) h k = each_at Sound _ (omega arith) rows (omega arith) n

-- ---- what a row picks

module _ (w : Row) (b face : ℕ) where
  -- the row's numbers and the base
  abbrev pub own : Falling
  own = record { 0 = w.first; 1 = w.second; 2 = base_of w b face }

  pub picks_one : base_of w b face ≤ 100 * w.threshold → None ≡ factor_for w b face
  unfolding factor_for
  picks_one h = sym (if_ge _ h)

  pub picks_falling : 100 * w.threshold < base_of w b face → Some own ≡ factor_for w b face
  unfolding factor_for
  picks_falling h = sym (if_lt _ h)

  pub up_to_threshold : base_of w b face ≤ 100 * w.threshold → factored_requirement w b face ≡ b
  unfolding factored_requirement
  up_to_threshold h = if_ge _ h

  pub above_threshold : 100 * w.threshold < base_of w b face → factored_requirement w b face ≡ least (reaches w.first w.second (base_of w b face) b)
  unfolding factored_requirement
  above_threshold h = if_lt _ h

-- a requirement times its factor, rounded up
abbrev pub applied : ℕ → Option Falling → ℕ
applied b None = b
applied b (Some f) = least (reaches f.0 f.1 f.2 b)

pub applied_is : (w : Row) (b face : ℕ) → applied b (factor_for w b face) ≡ factored_requirement w b face
unfolding factor_for factored_requirement pick
applied_is w b face = go (ltb (100 * w.threshold) (base_of w b face))
  where
    go :
        (t : Bool) →
        applied b (pick t (Some (own w b face)) None)
        ≡ pick t (least (reaches w.first w.second (base_of w b face) b)) b
    go true = refl
    go false = refl

-- a factor that is at most 1
abbrev pub AtMostOne : ℕ → Option Falling → Type 0
AtMostOne b None = Unit {0}
AtMostOne b (Some f) = Falls f.0 f.1 f.2 b

module _ (w : Row) (s : Sound w) (b face : ℕ) (b-small : b ≤ limit) (face-small : face ≤ limit) where
  base_small : base_of w b face ≤ limit
  unfolding base_of
  base_small = go w.base
    where
      go : (x : Base) → amount_of x b face ≤ limit
      go Base.requirement = b-small
      go Base.face_amount = face-small

  pub falls : 100 * w.threshold < base_of w b face → Falls w.first w.second (base_of w b face) b
  falls h =
      let most : 100 * w.threshold ≤ base_of w b face = omega arith in
      record {
        positive = omega arith;
        small = base_small;
        amount = b-small;
        first_small = s.first_small;
        second_small = s.second_small;
        at_most_one = omega (arith, s.at_threshold, mul-le-mul_left ((20 - w.first) * (20 - w.first)) most);
      }

  pub at_most_one : AtMostOne b (factor_for w b face)
  unfolding factor_for
  at_most_one = by_test (AtMostOne b) (ltb (100 * w.threshold) (base_of w b face)) _ _ (λ e. falls (ltb-true _ _ e)) (λ e. tt)
