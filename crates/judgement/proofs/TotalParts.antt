-- Numbers that are the parts of a total add up to it, part by part. Assumes nothing.
use Rattle.basics.proofs.Common.{◌≡◌, ℕ, ◌+◌, ◌-◌, ◌*◌, leb, List, ◌∙◌, least}
use Rattle.codes.specs.Codes.{guarantee_class, scalar_class}
use Rattle.sizes.specs.Sizes.{ten_thousandths}
use Rattle.guideline.specs.Operational.{RO}
use Rattle.guideline.specs.Buffer.{sum_k, free, available, bracket, buffer}
use Rattle.sheet_line.specs.declared.Entry.{Entry}
use Rattle.ledger.specs.Numbers.{general_amount}
use Rattle.judgement.specs.Sheet.{sheet_of}

module _ (es : List Entry) where
  pub available_is : (sum dividends guarantee ro : ℕ) → sum ≡ sum_k (sheet_of es).blocks → dividends ≡ (sheet_of es).CRᵢ → guarantee ≡ general_amount es guarantee_class
      → ro ≡ RO (sheet_of es).volumes (sheet_of es).general → sum - dividends + guarantee + ro ≡ available (sheet_of es)
  unfolding available sheet_of
  available_is sum dividends guarantee ro a d b c = λ i. a i - d i + b i + c i

  pub buffer_is : (g avail credits x : ℕ) → g ≡ general_amount es scalar_class → avail ≡ available (sheet_of es) → credits ≡ free (sheet_of es)
      → x ≡ least (λ y. leb (g * (avail - credits)) (ten_thousandths * y)) → x ≡ buffer (sheet_of es)
  unfolding buffer bracket available sheet_of
  buffer_is g avail credits x a b c e = e ∙ (λ i. least (λ y. leb (a i * (b i - c i)) (ten_thousandths * y)))
