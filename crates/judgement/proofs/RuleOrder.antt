-- The order of rules 12, 16, 17 and 13, shown by small sheets that break two of them: each is turned away by the one that comes first, so no
-- program with the two in the other order meets the contract of `judge`. Beside them sheets at both sides of each rule's test, with the buffers of
-- those that are sound. All computed. Assumes nothing.
-- In order: lines, in cents; two rules of one sheet, the last line first; both sides of each test, the first line first.
use Rattle.basics.proofs.Common.{◌≡◌, ℕ, Bool, true, not, ltb, List, [], ◌∷◌, map, refl, ascending, any_to, least_from, pick, sum_to}
use Rattle.integer.specs.Sum.{sum}
use Rattle.field.specs.Field.{digits, field, digit_or_space, leading_digits, decimal}
use Rattle.refusal.specs.Outcome.{place_of}
use Rattle.refusal.specs.declared.Place.TheVariants.{Nowhere}
use Rattle.sizes.specs.Sizes.{non_participating, blocks}
use Rattle.guideline.specs.Factors.{factors}
use Rattle.guideline.specs.Block.{A, U, LT, Vh, y, ys, Q4, largest_of, largest, root, fine_i, a, fine_d, requirement, K}
use Rattle.guideline.specs.Operational.{total, volume, growth, operational_numerator, RO}
use Rattle.guideline.specs.Buffer.{sum_k, free, available, bracket, buffer}
use Rattle.mortality.specs.Credit.{twice_radicand, aggregated, diversification_credit, lowered}
use Rattle.codes.specs.Codes.{scalar_class, is_code, code_among}
use Rattle.codes.specs.declared.Code.TheVariants.{Rsk, Oth, Mor, Gen, Crd}
use Rattle.key_columns.specs.Key.{key}
use Rattle.layout.specs.Columns.{spaced, layout_of, lettered}
use Rattle.sheet_length.specs.Measured.{rule2, measured}
use Rattle.sheet_line.specs.declared.Entry.{Entry}
use Rattle.sheet_line.specs.Rules as line
use Rattle.places.specs.Entries.{has_key, lookup, has_line, exists}
use Rattle.order.specs.Order.{key_of, rule19, rule11}
use Rattle.order.specs.Reading.{on_line, read_from, print_by, print_lines}
use Rattle.order.proofs.SmallSheets.{bytes_of}
use Rattle.ledger.specs.Numbers.{pairs, block_by, volumes_by}
use Rattle.credits.specs.Credits.{credit_of, after_credit, credit_above}
use Rattle.sheet_blocks.specs.Blocks.{blocks_to, dividend_barred}
use Rattle.judgement.specs.Sheet.{sheet_of}
use Rattle.judgement.specs.Judgement.{Judgement, Judgement.turned_away, Judgement.sound, rule13, rule17, rule16, rule12, rule_lines, judgement}

-- ---- lines, in cents

-- RSK of a block and class with both amounts
abbrev rsk : ℕ → ℕ → ℕ → ℕ → Entry
rsk b c f g = record { code = Rsk; block = b; class = c; first = f; second = g }

-- property and casualty of a block
abbrev oth : ℕ → ℕ → Entry
oth b f = record { code = Oth; block = b; class = 1; first = f; second = 0 }

-- S and T of a block
abbrev mor : ℕ → ℕ → ℕ → Entry
mor b f g = record { code = Mor; block = b; class = 1; first = f; second = g }

-- GEN of a class
abbrev gen : ℕ → ℕ → Entry
gen c f = record { code = Gen; block = 0; class = c; first = f; second = 0 }

-- a dividend credit of a block, or a credit of adjustable product 1 in block 0
abbrev crd : ℕ → ℕ → Entry
crd b f = record { code = Crd; block = b; class = 1; first = f; second = 0 }

-- a scalar of one
abbrev one : Entry
one = gen scalar_class 10000

-- ---- two rules of one sheet; the last line first

-- the test of rule 12
abbrev pub unscaled : List Entry → Bool
unscaled es = not (has_line es Gen 0 scalar_class)

-- of rule 16
abbrev pub uncovered : List Entry → Bool
uncovered es = any_to (credit_above es) non_participating

-- of rule 17
abbrev pub barred : List Entry → Bool
barred es = any_to (dividend_barred es) blocks

-- of rule 13
abbrev pub exceeded : List Entry → Bool
exceeded es = ltb (available (sheet_of es)) (free (sheet_of es))

-- the tests of two rules hold of a sheet's lines, and the sheet is turned away under number n, with no place
abbrev pub Breaks : (List Entry → Bool) → (List Entry → Bool) → ℕ → List Entry → Type 0
Breaks first other n es = (first es ≡ true) × (other es ≡ true) × (judgement (print_lines es) ≡ turned_away n Nowhere)

-- a sheet for each two rules
pub record InOrder : Type 0 where
  -- S and T of a block without RSK
  pub rules_12_16 : (es : List Entry) × Breaks unscaled uncovered 12 es
  -- a dividend credit of a block that does not exist
  pub rules_12_17 : (es : List Entry) × Breaks unscaled barred 12 es
  -- group credits, and nothing that they could come off
  pub rules_12_13 : (es : List Entry) × Breaks unscaled exceeded 12 es
  pub rules_16_17 : (es : List Entry) × Breaks uncovered barred 16 es
  pub rules_16_13 : (es : List Entry) × Breaks uncovered exceeded 16 es
  pub rules_17_13 : (es : List Entry) × Breaks barred exceeded 17 es

pub in_order : InOrder
unfolding
    pick any_to least_from ascending sum_to digits field digit_or_space leading_digits decimal factors sum A U LT Vh y ys Q4 largest_of largest
    root fine_i a fine_d requirement K total volume growth operational_numerator RO sum_k available twice_radicand aggregated diversification_credit lowered is_code
    code_among spaced layout_of lettered key line.outside line.rule10 line.rule9 line.rule8
    line.rule6 line.rule5 line.parse_line has_key lookup exists pairs block_by volumes_by key_of rule19 rule11 on_line read_from print_by credit_of
    after_credit credit_above blocks_to dividend_barred sheet_of rule13 rule17 rule16 rule12 rule_lines rule2 measured judgement
in_order =
    record {
      rules_12_16 = (mor 1 100 100 ∷ [], (refl, refl, refl));
      rules_12_17 = (crd 17 1 ∷ [], (refl, refl, refl));
      rules_12_13 = (gen 5 1 ∷ [], (refl, refl, refl));
      rules_16_17 = (crd 17 1 ∷ one ∷ mor 1 100 100 ∷ [], (refl, refl, refl));
      rules_16_13 = (gen 5 1 ∷ one ∷ mor 1 100 100 ∷ [], (refl, refl, refl));
      rules_17_13 = (crd 17 1 ∷ gen 5 1 ∷ one ∷ [], (refl, refl, refl));
    }

-- ---- both sides of each test; the first line first

-- a sheet's lines, and what is answered of it: the number and the place that it is turned away under, or the buffer behind a 0
pub record Side : Type 0 where
  pub lines : List Entry
  pub answer : List ℕ

abbrev pub sides : List Side
sides =
    -- 12: no line at all, a scalar alone
    record { lines = []; answer = 12 ∷ 0 ∷ 0 ∷ [] }
    ∷ record { lines = one ∷ []; answer = 0 ∷ 0 ∷ [] }
    -- 16: the credit of S and T of 100, 129, and LT(1) of as much and of a cent less; the blocks at both ends
    ∷ record { lines = rsk 1 1 200 129 ∷ mor 1 100 100 ∷ one ∷ []; answer = 0 ∷ 71 ∷ [] }
    ∷ record { lines = rsk 1 1 200 128 ∷ mor 1 100 100 ∷ one ∷ []; answer = 16 ∷ 0 ∷ 0 ∷ [] }
    ∷ record { lines = rsk 1 2 200 129 ∷ mor 1 100 100 ∷ one ∷ []; answer = 16 ∷ 0 ∷ 0 ∷ [] }
    ∷ record { lines = mor 2 100 100 ∷ one ∷ []; answer = 16 ∷ 0 ∷ 0 ∷ [] }
    ∷ record { lines = mor 16 100 100 ∷ one ∷ []; answer = 16 ∷ 0 ∷ 0 ∷ [] }
    -- no credit, and no RSK
    ∷ record { lines = mor 1 100 0 ∷ one ∷ []; answer = 0 ∷ 0 ∷ [] }
    -- 17: a dividend credit of K and of a cent more, K of 100; of 0 for a block that does not exist, and for one of OTH alone; the last block
    ∷ record { lines = rsk 17 1 100 0 ∷ one ∷ crd 17 100 ∷ []; answer = 0 ∷ 0 ∷ [] }
    ∷ record { lines = rsk 17 1 100 0 ∷ one ∷ crd 17 101 ∷ []; answer = 17 ∷ 0 ∷ 0 ∷ [] }
    ∷ record { lines = rsk 18 1 100 0 ∷ one ∷ crd 17 0 ∷ []; answer = 17 ∷ 0 ∷ 0 ∷ [] }
    ∷ record { lines = oth 17 0 ∷ one ∷ crd 17 0 ∷ []; answer = 0 ∷ 0 ∷ [] }
    ∷ record { lines = one ∷ crd 32 0 ∷ []; answer = 17 ∷ 0 ∷ 0 ∷ [] }
    -- 13: credits of what is left and of a cent more: K of a block without participation and of a participating one, less a dividend credit
    ∷ record { lines = rsk 1 1 100 0 ∷ rsk 32 1 100 0 ∷ one ∷ gen 5 150 ∷ crd 0 20 ∷ crd 32 30 ∷ []; answer = 0 ∷ 0 ∷ [] }
    ∷ record { lines = rsk 1 1 100 0 ∷ rsk 32 1 100 0 ∷ one ∷ gen 5 151 ∷ crd 0 20 ∷ crd 32 30 ∷ []; answer = 13 ∷ 0 ∷ 0 ∷ [] }
    -- and a guarantee requirement of 100, of which RO is 5
    ∷ record { lines = gen 2 100 ∷ one ∷ gen 5 105 ∷ []; answer = 0 ∷ 0 ∷ [] }
    ∷ record { lines = gen 2 100 ∷ one ∷ gen 5 106 ∷ []; answer = 13 ∷ 0 ∷ 0 ∷ [] }
    ∷ []

-- what a judgement answers
abbrev pub answer_of : Judgement → List ℕ
answer_of (turned_away n p) = n ∷ place_of p
answer_of (sound es) = 0 ∷ buffer (sheet_of es) ∷ []

-- what is found, of the sheets' bytes, is what is wanted
pub sides_hold : map (λ (s : Side). answer_of (judgement (bytes_of s.lines))) sides ≡ map (λ (s : Side). s.answer) sides
unfolding in_order bracket buffer
sides_hold = refl
