-- The codes of a line: document 01's table of them, the sheet and the report. All that is said of a code stands here, but for what
-- it needs (needs) and the letters that a converter looks at (scaled_line): a code more is one in the list and a row of the table. Bytes are numbers: R is 82. Assumes nothing.
use Rattle.std.specs.Prelude.{Option, Some, None, ℕ, zero, suc, ◌+◌, ◌-◌, ◌*◌, ◌≤◌, List, [], ◌∷◌, Bool, true, false, eqb, get_or}
use Rattle.basics.specs.Pick.{pick}
use Rattle.sizes.specs.Sizes.{non_participating, participating, blocks, risks, other_amounts, territories, volume_classes, volume_pairs, adjustable_products}
use Rattle.codes.specs.declared.Code.{Code}
use Rattle.codes.specs.declared.Code.TheVariants.{Rsk, Oth, Mor, Vol, Acq, Gen, Crd}
use Rattle.codes.specs.declared.CodeRow.{CodeRow}

-- the codes, in the table's order, with document 02's MOR after OTH, ACQ after VOL and CRD last
abbrev pub codes : List Code
codes = Rsk ∷ Oth ∷ Mor ∷ Vol ∷ Acq ∷ Gen ∷ Crd ∷ []

-- RSK's classes: mortality to expenses
abbrev pub risk_classes : ℕ
risk_classes = risks

-- RSK's classes with a level and trend part: all but the last, expenses
abbrev pub trend_classes : ℕ
trend_classes = risk_classes - 1

-- OTH's classes: property and casualty, credit, market
abbrev pub other_classes : ℕ
other_classes = other_amounts

-- MOR's classes: one, that of S and T, 'the level and trend sums for survival and death products' (document 02, #101)
abbrev pub mortality_classes : ℕ
mortality_classes = 1

-- ACQ's classes: those of the volumes, of which it has the acquired prior amounts (document 02, #106)
abbrev pub acquired_classes : ℕ
acquired_classes = volume_classes

-- GEN's classes: gross components to credits
abbrev pub general_classes : ℕ
general_classes = 5

-- CRD's classes of a participating block: one, its dividend credit (document 02, #102)
abbrev pub dividend_classes : ℕ
dividend_classes = 1

-- the class of RSK that holds mortality
abbrev pub mortality_risk_class : ℕ
mortality_risk_class = 1

-- the class of OTH that holds property and casualty risk
abbrev pub pc_class : ℕ
pc_class = 1

-- the class of OTH that holds credit risk
abbrev pub credit_class : ℕ
credit_class = 2

-- the class of OTH that holds market risk
abbrev pub market_class : ℕ
market_class = 3

-- the class of MOR that holds the sums S and T
abbrev pub sums_class : ℕ
sums_class = 1

-- the class of VOL that holds segregated funds with guarantees
abbrev pub segregated_class : ℕ
segregated_class = 5

-- the class of CRD that holds a participating block's dividend credit
abbrev pub dividend_class : ℕ
dividend_class = 1

-- the class of GEN that holds the gross components
abbrev pub gross_class : ℕ
gross_class = 1

-- the class of GEN that holds the guarantee requirement
abbrev pub guarantee_class : ℕ
guarantee_class = 2

-- the class of GEN that holds the ceded premiums
abbrev pub ceded_class : ℕ
ceded_class = 3

-- the class of GEN that holds the group and deposit credits
abbrev pub group_credits_class : ℕ
group_credits_class = 5

-- the class of GEN that holds the scalar g
abbrev pub scalar_class : ℕ
scalar_class = 4

-- the RSK lines that there can be: 224
abbrev pub risk_lines : ℕ
risk_lines = blocks * risk_classes

-- the MOR lines: 16
abbrev pub mortality_lines : ℕ
mortality_lines = non_participating * mortality_classes

-- where VOL's lines begin in the tables, by how many places stand before: RSK's begin at 0, MOR's behind them, VOL's behind those
abbrev pub first_volume_place : ℕ
first_volume_place = risk_lines + mortality_lines

-- the lines that can have a second amount, those of RSK, MOR and VOL: 368, RSK's expenses with them, whose second amount is 0. OTH's begin behind them
abbrev pub paired_lines : ℕ
paired_lines = first_volume_place + volume_pairs

-- the OTH lines: 96
abbrev pub other_lines : ℕ
other_lines = blocks * other_classes

-- where ACQ's lines begin, behind OTH's
abbrev pub first_acquired_place : ℕ
first_acquired_place = paired_lines + other_lines

-- the ACQ lines: 128
abbrev pub acquired_lines : ℕ
acquired_lines = territories * acquired_classes

-- where GEN's lines begin, behind ACQ's
abbrev pub first_general_place : ℕ
first_general_place = first_acquired_place + acquired_lines

-- where CRD's lines begin, behind GEN's
abbrev pub first_credit_place : ℕ
first_credit_place = first_general_place + general_classes

-- the CRD lines, of block 0 and of the participating blocks: 32
abbrev pub credit_lines : ℕ
credit_lines = adjustable_products + participating * dividend_classes

-- the lines that a sheet can have, one for each code, block and class: 629
abbrev pub most_lines : ℕ
most_lines = first_credit_place + credit_lines

-- a row of the table by the columns that differ from code to code; the others are given by name where they are not 0 or false
abbrev code_row : List ℕ → ℕ → ℕ → ℕ → ℕ → ℕ → ℕ → CodeRow
code_row letters rank lowest highest classes first_place block_places =
    record {
      letters = letters;
      rank = rank;
      lowest = lowest;
      highest = highest;
      classes = classes;
      paired = 0;
      trend = false;
      scalar = 0;
      makes_block = false;
      first_place = first_place;
      block_places = block_places;
    }

-- The table: a row for each code, and two for CRD, that of block 0 and that of the others. Its columns, in this order:
-- letters: RSK, OTH, MOR, VOL, ACQ, GEN, CRD
-- rank: the place in the order of codes, 'RSK, OTH, MOR, VOL, GEN, CRD' (document 02, #105), with ACQ, which 'stands after VOL' (#106)
-- lowest, highest: the first block and the last
-- classes: the last class, from 1 on
-- first_place, block_places: where the code's lines begin in the tables, and how many of them a block has, of those from 1 on: no word of the papers
-- and by name:
-- paired: the last class with a second amount, 0 for none; of RSK all have one but expenses, as LT(7) is zero
-- trend: whether the second amount is a part of the first, as of RSK, level and trend
-- scalar: the class of the scalar g, 0 for none
-- makes_block: whether a line makes its block exist: 'A block exists when it has an RSK or OTH line'
abbrev pub row_of : Code → ℕ → CodeRow
row_of Rsk b = record (code_row (82 ∷ 83 ∷ 75 ∷ []) 0 1 blocks risk_classes 0 risk_classes) { paired = trend_classes; trend = true; makes_block = true }
row_of Oth b = record (code_row (79 ∷ 84 ∷ 72 ∷ []) 1 1 blocks other_classes paired_lines other_classes) { makes_block = true }
row_of Mor b = record (code_row (77 ∷ 79 ∷ 82 ∷ []) 2 1 non_participating mortality_classes risk_lines mortality_classes) { paired = mortality_classes }
row_of Vol b = record (code_row (86 ∷ 79 ∷ 76 ∷ []) 3 1 territories volume_classes first_volume_place volume_classes) { paired = volume_classes }
row_of Acq b = code_row (65 ∷ 67 ∷ 81 ∷ []) 4 1 territories acquired_classes first_acquired_place acquired_classes
row_of Gen b = record (code_row (71 ∷ 69 ∷ 78 ∷ []) 5 0 0 general_classes first_general_place 0) { scalar = scalar_class }
row_of Crd zero = code_row (67 ∷ 82 ∷ 68 ∷ []) 6 0 0 adjustable_products first_credit_place dividend_classes
row_of Crd (suc b) = code_row (67 ∷ 82 ∷ 68 ∷ []) 6 (non_participating + 1) blocks dividend_classes first_credit_place dividend_classes

-- the letters of a code, which all its rows have
abbrev pub letters_of : Code → List ℕ
letters_of k = (row_of k 0).letters

-- its rank
abbrev pub rank : Code → ℕ
rank k = (row_of k 0).rank

-- a block and a class that a code has
pub record Key (k : Code) (b c : ℕ) : Type 0 where
  pub low : (row_of k b).lowest ≤ b
  pub high : b ≤ (row_of k b).highest
  pub one : 1 ≤ c
  pub most : c ≤ (row_of k b).classes

-- columns 1 to 3 of a line are these letters
unfoldable pub is_code : List ℕ → List ℕ → Bool
is_code w s = pick (eqb (get_or s 0 0) (get_or w 0 0)) (pick (eqb (get_or s 1 0) (get_or w 1 0)) (eqb (get_or s 2 0) (get_or w 2 0)) false) false

-- the first of some codes whose letters columns 1 to 3 are; none where they are the letters of none
unfoldable pub code_among : List Code → List ℕ → Option Code
code_among [] s = None
code_among (k ∷ ks) s = pick (is_code (letters_of k) s) (Some k) (code_among ks s)

-- 'code in columns 1–3'
abbrev pub code_of : List ℕ → Option Code
code_of s = code_among codes s
