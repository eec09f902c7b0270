-- The numbers that are taken off a sheet's lines, in the order of the calls that take them: 'An absent line means zeros'. Assumes nothing.
use Rattle.std.specs.Prelude.{ℕ, zero, suc, ◌+◌, ◌/◌, ◌%◌, List, [], ◌∷◌, ◌++◌}
use Rattle.sizes.specs.Sizes.{volume_classes, volume_pairs}
use Rattle.codes.specs.Codes.{risk_classes, pc_class, credit_class, market_class, sums_class, dividend_class}
use Rattle.codes.specs.declared.Code.{Code}
use Rattle.codes.specs.declared.Code.TheVariants.{Rsk, Oth, Mor, Vol, Acq, Gen, Crd}
use Rattle.sheet_line.specs.declared.Entry.{Entry}
use Rattle.places.specs.Entries.{lookup, first_of, second_of}

-- n pairs: f 0, g 0, f 1, g 1 and so on
unfoldable pub pairs : (ℕ → ℕ) → (ℕ → ℕ) → ℕ → List ℕ
pairs f g zero = []
pairs f g (suc n) = pairs f g n ++ (f n ∷ []) ++ (g n ∷ [])

-- 'The block call takes 17 numbers: seven pairs IR, LT, then PC, credit, market', by the first and the second amounts of lines
unfoldable pub block_by : (Code → ℕ → ℕ → ℕ) → (Code → ℕ → ℕ → ℕ) → ℕ → List ℕ
block_by first second b =
    pairs (λ i. first Rsk b (i + 1)) (λ i. second Rsk b (i + 1)) risk_classes
    ++ (first Oth b pc_class ∷ first Oth b credit_class ∷ first Oth b market_class ∷ [])

-- 'a list of 16 numbers per territory (eight pairs)', current and prior of classes 1 to 8, for territories 1 to 16
unfoldable pub volumes_by : (Code → ℕ → ℕ → ℕ) → (Code → ℕ → ℕ → ℕ) → List ℕ
volumes_by first second =
    pairs (λ i. first Vol (i / volume_classes + 1) (i % volume_classes + 1)) (λ i. second Vol (i / volume_classes + 1) (i % volume_classes + 1))
    volume_pairs

-- the volumes with joined priors: 'A line ACQ .. gives the acquired prior amount, added to the prior of that class before the 120 %' (document 02,
-- #106), since section 8.2.2 of document 003 counts the prior amount of both parties
abbrev pub joined_by : (Code → ℕ → ℕ → ℕ) → (Code → ℕ → ℕ → ℕ) → List ℕ
joined_by first second = volumes_by first (λ k b c. second k b c + first Acq b c)

-- the 17 numbers of a block
abbrev pub block_of : List Entry → ℕ → List ℕ
block_of es b = block_by (lookup first_of es) (lookup second_of es) b

-- the volumes of all territories
abbrev pub volumes_of : List Entry → List ℕ
volumes_of es = joined_by (lookup first_of es) (lookup second_of es)

-- 'GEN: 1 gross components, 2 guarantee requirement, 3 ceded premiums, 4 g, 5 credits'
abbrev pub general_amount : List Entry → ℕ → ℕ
general_amount es c = lookup first_of es Gen 0 c

-- 'MOR .. carries S and T, the level and trend sums for survival and death products' (document 02, #101): S of a block
abbrev pub survival_sum : List Entry → ℕ → ℕ
survival_sum es b = lookup first_of es Mor b sums_class

-- and T
abbrev pub death_sum : List Entry → ℕ → ℕ
death_sum es b = lookup second_of es Mor b sums_class

-- 'A line CRD with block 17–32 and class 1 is that block's dividend credit' (document 02, #102), 0 where there is none
abbrev pub dividend_credit : List Entry → ℕ → ℕ
dividend_credit es b = lookup first_of es Crd b dividend_class

-- 'CRD with block 0 and class 1–16 is a credit of an adjustable product'
abbrev pub adjustable_credit : List Entry → ℕ → ℕ
adjustable_credit es c = lookup first_of es Crd 0 c
