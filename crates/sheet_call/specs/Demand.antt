-- Demand 3 of the bytes that the sheet call leaves: 'The reported figures of demand 3 are those in the report that the sheet call leaves:
-- the reported buffer is TOT item 3; of a block, the adjusted requirement is BLK item 5, K, the level and trend item 4, LT, the
-- diversified requirement item 2, D, in half cents, and the undiversified one item 3, U.' 'The exact figures come from the sheet's
-- amounts.'
-- Assumes nothing.
use Rattle.std.specs.Prelude.{◌≡◌, true, List, ℕ, ◌+◌, ◌*◌, ◌≤◌, Some}
use Rattle.refusal.specs.Outcome.{Outcome}
use Rattle.refusal.specs.Outcome.Outcome.{accepted, refused}
use Rattle.sizes.specs.Sizes.{fineness, block_allowance}
use Rattle.guideline.specs.Block.{I, D, U, LT, K}
use Rattle.guideline.specs.Operational.{RO}
use Rattle.guideline.specs.Buffer.{sum_k, buffer}
use Rattle.accuracy.specs.Fraction.{whole, hundredths}
use Rattle.accuracy.specs.Exact.{StrictlyBelowK}
use Rattle.accuracy.specs.Demand.{BufferDemand}
use Rattle.report_line.specs.Line.{number_at}
use Rattle.sheet_line.specs.declared.Entry.{Entry}
use Rattle.places.specs.Entries.{exists}
use Rattle.ledger.specs.Numbers.{block_of, survival_sum, death_sum}
use Rattle.report.specs.Rows.{BLK, TOT}
use Rattle.mortality.specs.Credit.{CreditDemand}
use Rattle.credits.specs.Credits.{credit_of, after_credit}
use Rattle.judgement.specs.Sheet.{sheet_of}
use Rattle.judgement.specs.Judgement.{judgement}
use Rattle.judgement.specs.Judgement.Judgement.{sound}

-- 'For every block 2 × K is at least LT + D, and K is at most U', of the numbers read back off the report; K is not strictly below the exact K and
-- 'less than 1.01 cents above' it (document 02, #109); and the credit is what U and LT are below those of the lines (document 02, #101)
pub record ReportedBlock (es : List Entry) (report : List ℕ) (b : ℕ) : Type 0 where
  pub d : ℕ
  pub u : ℕ
  pub lt : ℕ
  pub k : ℕ
  pub reads_d : number_at report BLK b 2 ≡ Some d
  pub reads_u : number_at report BLK b 3 ≡ Some u
  pub reads_lt : number_at report BLK b 4 ≡ Some lt
  pub reads_k : number_at report BLK b 5 ≡ Some k
  pub twice : lt + d ≤ 2 * k
  pub within : k ≤ u
  pub k_not_below : ¬ StrictlyBelowK (after_credit es b) (whole k 0)
  pub k_near : StrictlyBelowK (after_credit es b) (hundredths (fineness * k) block_allowance)
  pub credited_u : u + credit_of es b ≡ U (block_of es b)
  pub credited_lt : lt + credit_of es b ≡ LT (block_of es b)

-- the reported buffer, read back off the report, against the exact one, IR(1) and LT(1) of the sheet taken after the reported credits, each prior
-- volume joined with the acquired one ('The exact buffer is read with the joined prior', document 02, #106); every block that exists; and of every
-- block the reported credit against the exact one (document 02, #101)
pub record ReportDemand (es : List Entry) (report : List ℕ) : Type 0 where
  pub buffer : ℕ
  pub reads_buffer : number_at report TOT 0 3 ≡ Some buffer
  pub accurate : BufferDemand (sheet_of es) buffer
  pub blocks : (b : ℕ) → exists es b ≡ true → ReportedBlock es report b
  pub credits : (b : ℕ) → CreditDemand (survival_sum es b) (death_sum es b) (credit_of es b)

-- demand 3 for a sheet, the call's outcome and the report afterwards: a sheet that is accepted is judged to be sound, and its report meets it
abbrev pub Demand3 : List ℕ → Outcome → List ℕ → Type 0
Demand3 sheet (accepted vs) report = (es : List Entry) × (judgement sheet ≡ sound es) × ReportDemand es report
Demand3 sheet (refused n p) report = Unit {0}

-- ---- every number of the report

-- the five numbers of a block that exists, read back off the report: each is the figure whole, and none is cut to its columns
pub record WholeBlock (es : List Entry) (report : List ℕ) (b : ℕ) : Type 0 where
  pub i : number_at report BLK b 1 ≡ Some (I (after_credit es b))
  pub d : number_at report BLK b 2 ≡ Some (D (after_credit es b))
  pub u : number_at report BLK b 3 ≡ Some (U (after_credit es b))
  pub lt : number_at report BLK b 4 ≡ Some (LT (after_credit es b))
  pub k : number_at report BLK b 5 ≡ Some (K (after_credit es b))

-- those of every block, and the three totals
pub record WholeNumbers (es : List Entry) (report : List ℕ) : Type 0 where
  pub blocks : (b : ℕ) → exists es b ≡ true → WholeBlock es report b
  pub sum : number_at report TOT 0 1 ≡ Some (sum_k (sheet_of es).blocks)
  pub ro : number_at report TOT 0 2 ≡ Some (RO (sheet_of es).volumes (sheet_of es).general)
  pub total : number_at report TOT 0 3 ≡ Some (buffer (sheet_of es))

-- of a sheet, the call's outcome and the report afterwards
abbrev pub PrintedWhole : List ℕ → Outcome → List ℕ → Type 0
PrintedWhole sheet (accepted vs) report = (es : List Entry) × (judgement sheet ≡ sound es) × WholeNumbers es report
PrintedWhole sheet (refused n p) report = Unit {0}
