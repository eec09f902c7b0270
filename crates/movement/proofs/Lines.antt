-- The line of a risk, and the lines of the risks one after the other. Assumes nothing.
use Rattle.basics.proofs.Common.{◌≡◌, ℕ, zero, suc, ◌+◌, ◌-◌, ◌*◌, ◌<◌, ◌≤◌, List, ◌++◌, length, get_or, take, drop, set, ℤ, sym, refl, ap, ◌∙◌, add-one, arith, length-append, sub_ℕ, put_mid, if_lt}
use Rattle.basics.proofs.Common.{if_ge, by_test, Wrote, nothing, lent_part}
use Rattle.integer.proofs.Difference.{less_diff}
use Rattle.refusal.specs.declared.Place.TheVariants.{Risk}
use Rattle.amount.specs.Amount.{limit}
use Rattle.sizes.specs.Sizes.{risks, number_columns}
use Rattle.guideline.specs.Block.{ir, K, AcceptedBlock}
use Rattle.sensitivity.specs.Movement.{raised}
use Rattle.sensitivity.proofs.RaisedBlock.{each_at}
use Rattle.field.specs.Field.{leading_digits, decimal}
use Rattle.field.specs.Signed.{signed}
use Rattle.field.proofs.Minus.{length_signed}
use Rattle.field.proofs.WrittenColumns.{length_decimal}
use Rattle.key_columns.specs.Key.{key}
use Rattle.report_line.specs.Line.{before_number, report_line_bytes, line_in, report_line, row_in}
use Rattle.report_line.proofs.Readback.{length_line}
use Rattle.text_answer.specs.Printing.{REF, refusal_row, refusal_line}
use Rattle.movement.specs.Call.{MOV, signed_line, movement, risk_line, risk_lines}

-- ---- a line whose number may be below 0

-- a report line with other bytes put back into the number's columns
pub signed_in :
    (l : List ℕ) (risk : ℕ) (z : ℤ) {ys : List ℕ} → l ≡ report_line MOV 0 risk 0 → ys ≡ signed (length (take number_columns (drop before_number l))) z →
    put_mid before_number number_columns l ys ≡ signed_line MOV 0 risk z
unfolding line_in signed_line key decimal leading_digits
signed_in l risk z e q =
    let n : length (take number_columns (drop before_number l)) ≡ number_columns = rw e in
    rw (q, n, e)

length_signed_line : (risk : ℕ) (z : ℤ) → length (signed_line MOV 0 risk z) ≡ report_line_bytes
unfolding signed_line key
length_signed_line risk z = simp (length-append, length_decimal, length_signed)

-- ---- the line of a risk

pub length_risk_line : (b : List ℕ) (t i : ℕ) → length (risk_line b t i) ≡ report_line_bytes
unfolding risk_line refusal_line
length_risk_line b t i =
    by_test (λ (l : List ℕ). length l ≡ report_line_bytes) _ _ _ (λ e. length_line REF 22 0 i refl) (λ e. length_signed_line i (movement b t i))

-- risks counted from 0: the place of a component
pub place : (i : ℕ) → 2 * suc i - 2 ≡ 2 * i
place i = omega arith

pub raised_is : (b : List ℕ) (t i : ℕ) → set b (2 * i) (get_or b (2 * i) 0 + t) ≡ raised b (suc i) t
unfolding raised
raised_is b t i = rw (place i)

module _ (b : List ℕ) (t i : ℕ) {x : ℕ} (e : x ≡ ir b (i + 1)) where
  component : x ≡ ir b (suc i)
  component = rw add-one at e

  pub refused_line : limit - x < t → row_in number_columns (refusal_row 22 (Risk (i + 1))) ≡ risk_line b t (suc i)
  unfolding risk_line refusal_line
  refused_line w =
      let above : limit < ir b (suc i) + t = omega (arith, component) in
      rw add-one (sym (if_lt _ above))

  module _ (v : AcceptedBlock b) (h : i < risks) (w : t ≤ limit - x) where
    pub within : ir b (suc i) + t ≤ limit
    within = omega (arith, component, each_at (λ j. ir b j ≤ limit) v.ir_fits i h)

    pub moved_line : {k n : ℕ} → k ≡ K b → n ≡ K (raised b (suc i) t) → signed_line MOV 0 (i + 1) (sub_ℕ n k) ≡ risk_line b t (suc i)
    unfolding risk_line
    moved_line p q =
        let z = less_diff (K (raised b (suc i) t)) (K b) in
        rw (q, p, add-one) (ap (signed_line MOV 0 (suc i)) (sym z) ∙ sym (if_ge _ within))

-- ---- one after the other

pub length_lines : (b : List ℕ) (t n : ℕ) → length (risk_lines b t n) ≡ report_line_bytes * n
unfolding risk_lines
length_lines b t zero = refl
length_lines b t (suc n) = omega (arith, length-append (risk_lines b t n) (risk_line b t (suc n)), length_lines b t n, length_risk_line b t (suc n))

-- the lines of the first i risks written over the front of a room
abbrev pub Lines : List ℕ → ℕ → List ℕ → ℕ → List ℕ → Type 0
Lines b t l₀ i l = (i ≤ risks) × Wrote l₀ (report_line_bytes * i) (risk_lines b t i) l

module _ (b : List ℕ) (t : ℕ) where
  pub no_line : (l : List ℕ) → Lines b t l 0 l
  unfolding risk_lines
  no_line l = (omega arith, nothing l)

  module _ {l₀ l : List ℕ} {i : ℕ} (w : Lines b t l₀ i l) (long : report_line_bytes * risks ≤ length l₀) where
    -- one line more, put back as the code lends its stretch
    pub next_line :
        {ys : List ℕ} → i < risks → ys ≡ risk_line b t (suc i) →
        Lines b t l₀ (i + 1) (put_mid (report_line_bytes * i) (report_line_bytes * i + report_line_bytes - report_line_bytes * i) l ys)
    unfolding risk_lines
    next_line {ys} h e =
        let a : report_line_bytes * suc i ≡ report_line_bytes * i + report_line_bytes = omega arith in
        let n : length (risk_line b t (suc i)) ≡ report_line_bytes = length_risk_line b t (suc i) in
        (omega arith, rw (add-one, a, e) (lent_part w.1 report_line_bytes (risk_line b t (suc i)) (omega arith) n))

    pub all_lines : risks ≤ i → l ≡ risk_lines b t risks ++ drop (report_line_bytes * risks) l₀
    all_lines h =
        let e : i ≡ risks = omega (arith, w.0) in
        w.1.text ∙ ap (λ (n : ℕ). risk_lines b t n ++ drop (report_line_bytes * n) l₀) e
