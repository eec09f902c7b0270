-- Document 01's calibration points: the rows marked †, one table, with document 02's worked figures. Cents; I and D in half cents. A row
-- has the outcome that the call's contract equates its answer with, or where no call gives the figures the definitions' values, and the
-- figures that the paper's row gives, no others. Where a row is refused, its figures are the refusal's number and what place it has.
-- Assumes nothing.
use Rattle.std.specs.Prelude.{Bool, true, false, ◌&&◌, List, [], ◌∷◌, ℕ, suc, ◌-◌, eqb, get_or}
use Rattle.refusal.specs.Outcome.{Outcome, place_of}
use Rattle.refusal.specs.Outcome.Outcome.{accepted, refused}
use Rattle.mortality.specs.Credit.{aggregated, diversification_credit}
use Rattle.block.specs.Call.{block_call}
use Rattle.operational.specs.Call.{operational_call}
use Rattle.fluctuation.specs.Call.{fluctuation_call}
use Rattle.shares.specs.Call.{shares_call}
use Rattle.codes.specs.declared.Code.TheVariants.{Vol, Acq}
use Rattle.sheet_line.specs.declared.Entry.{Entry}
use Rattle.ledger.specs.Numbers.{volumes_of}

-- a figure and its place among the call's values
pub record Figure : Type 0 where
  pub place : ℕ
  pub figure : ℕ

-- a figure of the block call: I, its first value
abbrev I : ℕ → Figure
I n = record { place = 0; figure = n }

-- D, the second
abbrev D : ℕ → Figure
D n = record { place = 1; figure = n }

-- U, the third
abbrev U : ℕ → Figure
U n = record { place = 2; figure = n }

-- LT, the fourth
abbrev LT : ℕ → Figure
LT n = record { place = 3; figure = n }

-- K, the fifth
abbrev K : ℕ → Figure
K n = record { place = 4; figure = n }

-- the operational call's one value
abbrev RO : ℕ → Figure
RO n = record { place = 0; figure = n }

-- the aggregate of section 11.1.1, the first of two values
abbrev aggregate : ℕ → Figure
aggregate n = record { place = 0; figure = n }

-- the credit, the second
abbrev mortality_credit : ℕ → Figure
mortality_credit n = record { place = 1; figure = n }

-- the fluctuation call's one value
abbrev result : ℕ → Figure
result n = record { place = 0; figure = n }

-- the share of part p, from 1 to 10
abbrev share : ℕ → ℕ → Figure
share p n = record { place = p - 1; figure = n }

-- a refusal's figures, its number and its place; none where the call accepts
abbrev turned : Outcome → Outcome
turned (accepted vs) = accepted []
turned (refused n p) = accepted (n ∷ place_of p)

-- refused by number n 'with no place'
abbrev with_no_place : ℕ → List Figure
with_no_place n = record { place = 0; figure = n } ∷ record { place = 1; figure = 0 } ∷ record { place = 2; figure = 0 } ∷ []

-- a row: the outcome of the call at the row's input, and the figures that the row prints
pub record Point : Type 0 where
  pub outcome : Outcome
  pub figures : List Figure

-- the call accepts, and gives each figure of the row
unfoldable pub gives : Outcome → List Figure → Bool
gives (refused n p) fs = false
gives (accepted vs) [] = true
gives (accepted vs) (f ∷ fs) = eqb (get_or vs f.place (suc f.figure)) f.figure && gives (accepted vs) fs

-- every row holds
unfoldable pub all_given : List Point → Bool
all_given [] = true
all_given (r ∷ rs) = gives r.outcome r.figures && all_given rs

-- the volumes of one territory that has its first class alone
abbrev first : ℕ → ℕ → List ℕ
first current prior = current ∷ prior ∷ 0 ∷ 0 ∷ 0 ∷ 0 ∷ 0 ∷ 0 ∷ 0 ∷ 0 ∷ 0 ∷ 0 ∷ 0 ∷ 0 ∷ 0 ∷ 0 ∷ []

-- and of one that has its seventh alone
abbrev seventh : ℕ → ℕ → List ℕ
seventh current prior = 0 ∷ 0 ∷ 0 ∷ 0 ∷ 0 ∷ 0 ∷ 0 ∷ 0 ∷ 0 ∷ 0 ∷ 0 ∷ 0 ∷ current ∷ prior ∷ 0 ∷ 0 ∷ []

-- no general figures
abbrev pub nothing : List ℕ
nothing = 0 ∷ 0 ∷ 0 ∷ []

-- the lines of a territory that took a portfolio over in its first class: 100 of prior premiums, 50 of the seller's, 225 after it (document 003,
-- section 8.2.2), in cents; the last line first
abbrev acquisition : List Entry
acquisition =
    record { code = Acq; block = 1; class = 1; first = 5000; second = 0 }
    ∷ record { code = Vol; block = 1; class = 1; first = 22500; second = 10000 }
    ∷ []

-- a block of its 17 numbers, risks 1 to 7, then PC, credit and market
abbrev pub points : List Point
points =
    -- the example of document 000
    record {
      outcome =
          block_call
          (100000000 ∷ 70000000 ∷ 300000 ∷ 300000 ∷ 5000000 ∷ 1000000 ∷ 250000 ∷ 100000 ∷ 30000000 ∷ 15000000 ∷ 10000000 ∷ 4000000 ∷ 1000000 ∷ 0
          ∷ 2500000 ∷ 20000000 ∷ 7500000 ∷ []);
      figures = I 157884172 ∷ D 191405437 ∷ U 176550000 ∷ LT 90400000 ∷ K 151765333 ∷ [];
    }
    -- all zeros
    ∷ record {
      outcome = block_call (0 ∷ 0 ∷ 0 ∷ 0 ∷ 0 ∷ 0 ∷ 0 ∷ 0 ∷ 0 ∷ 0 ∷ 0 ∷ 0 ∷ 0 ∷ 0 ∷ 0 ∷ 0 ∷ 0 ∷ []);
      figures = I 0 ∷ D 0 ∷ U 0 ∷ LT 0 ∷ K 0 ∷ [];
    }
    -- IR(1) 100
    ∷ record { outcome = block_call (100 ∷ 0 ∷ 0 ∷ 0 ∷ 0 ∷ 0 ∷ 0 ∷ 0 ∷ 0 ∷ 0 ∷ 0 ∷ 0 ∷ 0 ∷ 0 ∷ 0 ∷ 0 ∷ 0 ∷ []); figures = I 200 ∷ D 200 ∷ K 100 ∷ [] }
    -- IR(1) 100, LT(1) 100
    ∷ record { outcome = block_call (100 ∷ 100 ∷ 0 ∷ 0 ∷ 0 ∷ 0 ∷ 0 ∷ 0 ∷ 0 ∷ 0 ∷ 0 ∷ 0 ∷ 0 ∷ 0 ∷ 0 ∷ 0 ∷ 0 ∷ []); figures = I 100 ∷ D 100 ∷ K 100 ∷ [] }
    -- IR(1) 1, LT(1) 1
    ∷ record { outcome = block_call (1 ∷ 1 ∷ 0 ∷ 0 ∷ 0 ∷ 0 ∷ 0 ∷ 0 ∷ 0 ∷ 0 ∷ 0 ∷ 0 ∷ 0 ∷ 0 ∷ 0 ∷ 0 ∷ 0 ∷ []); figures = I 1 ∷ D 1 ∷ K 1 ∷ [] }
    -- IR(5) 100, IR(6) 100
    ∷ record { outcome = block_call (0 ∷ 0 ∷ 0 ∷ 0 ∷ 0 ∷ 0 ∷ 0 ∷ 0 ∷ 100 ∷ 0 ∷ 100 ∷ 0 ∷ 0 ∷ 0 ∷ 0 ∷ 0 ∷ 0 ∷ []); figures = I 200 ∷ D 200 ∷ K 160 ∷ [] }
    -- IR(1) 100, IR(2) 100
    ∷ record { outcome = block_call (100 ∷ 0 ∷ 100 ∷ 0 ∷ 0 ∷ 0 ∷ 0 ∷ 0 ∷ 0 ∷ 0 ∷ 0 ∷ 0 ∷ 0 ∷ 0 ∷ 0 ∷ 0 ∷ 0 ∷ []); figures = I 245 ∷ K 160 ∷ [] }
    -- IR(1) 100, credit 100
    ∷ record { outcome = block_call (100 ∷ 0 ∷ 0 ∷ 0 ∷ 0 ∷ 0 ∷ 0 ∷ 0 ∷ 0 ∷ 0 ∷ 0 ∷ 0 ∷ 0 ∷ 0 ∷ 0 ∷ 100 ∷ 0 ∷ []); figures = D 347 ∷ K 178 ∷ [] }
    -- VOL class 1: 15000, 10000
    ∷ record { outcome = operational_call (first 15000 10000) nothing; figures = RO 450 ∷ [] }
    -- VOL class 1: 12000, 10000
    ∷ record { outcome = operational_call (first 12000 10000) nothing; figures = RO 300 ∷ [] }
    -- VOL class 1: 22500, 15000
    ∷ record { outcome = operational_call (first 22500 15000) nothing; figures = RO 675 ∷ [] }
    -- document 02, #106: document 003's acquisition example, VOL class 1: 22500, 10000, and ACQ class 1: 5000, taken off these lines
    ∷ record { outcome = operational_call (volumes_of acquisition) nothing; figures = RO 675 ∷ [] }
    -- VOL class 7: 1, 1
    ∷ record { outcome = operational_call (seventh 1 1) nothing; figures = RO 1 ∷ [] }
    -- document 02, #101: S and T both 100
    ∷ record { outcome = accepted (aggregated 100 100 ∷ diversification_credit 100 100 ∷ []); figures = aggregate 71 ∷ mortality_credit 129 ∷ [] }
    -- document 02, #104, in dollars: long-term care level 100,000,000
    ∷ record { outcome = fluctuation_call 2 10000000000 0; figures = result 9330000000 ∷ [] }
    -- and critical illness 1,000,000 on a face of 400,000,000
    ∷ record { outcome = fluctuation_call 7 100000000 40000000000; figures = result 88610000 ∷ [] }
    -- document 02, #112: the shares of the example of document 000, which total its K
    ∷ record {
      outcome =
          shares_call
          (100000000 ∷ 70000000 ∷ 300000 ∷ 300000 ∷ 5000000 ∷ 1000000 ∷ 250000 ∷ 100000 ∷ 30000000 ∷ 15000000 ∷ 10000000 ∷ 4000000 ∷ 1000000 ∷ 0
          ∷ 2500000 ∷ 20000000 ∷ 7500000 ∷ []);
      figures =
          share 1 93277020 ∷ share 2 226114 ∷ share 3 4113667 ∷ share 4 152552 ∷ share 5 22670757 ∷ share 6 5632096 ∷ share 7 783103
          ∷ share 8 2402284 ∷ share 9 16262059 ∷ share 10 6245681 ∷ [];
    }
    -- document 001, section 2.2.2, a block with its illustration's capital: it prints 18.6, 9.8, 36.4 and 2.8 of 68, here in cents of 67.55 dollars
    ∷ record {
      outcome = shares_call (0 ∷ 0 ∷ 0 ∷ 0 ∷ 0 ∷ 0 ∷ 0 ∷ 0 ∷ 1505 ∷ 610 ∷ 4292 ∷ 82 ∷ 469 ∷ 0 ∷ 0 ∷ 0 ∷ 2091 ∷ []);
      figures = share 10 1856 ∷ share 5 977 ∷ share 6 3643 ∷ share 7 279 ∷ [];
    }
    -- a cent of each of five risks: K is 4 with and without any one of them
    ∷ record { outcome = turned (shares_call (1 ∷ 0 ∷ 1 ∷ 0 ∷ 0 ∷ 0 ∷ 1 ∷ 0 ∷ 0 ∷ 0 ∷ 1 ∷ 0 ∷ 1 ∷ 0 ∷ 0 ∷ 0 ∷ 0 ∷ [])); figures = with_no_place 23 }
    -- a little longevity beside much mortality lowers K
    ∷ record { outcome = turned (shares_call (1000000 ∷ 0 ∷ 100 ∷ 0 ∷ 0 ∷ 0 ∷ 0 ∷ 0 ∷ 0 ∷ 0 ∷ 0 ∷ 0 ∷ 100 ∷ 0 ∷ 0 ∷ 0 ∷ 0 ∷ [])); figures = with_no_place 23 }
    ∷ []
