-- The statistical fluctuation factors of section 11.1.2, after document 02, #104: 'seven rows, numbered as listed'. The list has the
-- numbers as printed, the first one in twentieths, so that each is whole. 'The print lost the root sign; the thresholds show it': with the
-- root each factor is from 0.9996 to 1 at its threshold, which proofs/Rows tests of the list. The section's own headings stand beside
-- document 02's names: 'risque de niveau' is 11.1.2.1, 'risque de volatilité' 11.1.2.2. Assumes nothing.
use Rattle.std.specs.Prelude.{◌≡◌, refl, List, [], ◌∷◌, ℕ, length}
use Rattle.basics.specs.Numbered.{numbered}

-- 'The base is the requirement B itself, for critical illness the face amount'
pub data Base : Type 0 where
  requirement : Base
  face_amount : Base

pub record Row : Type 0 where
  -- the first number, in twentieths
  pub first : ℕ
  pub second : ℕ
  -- 'Thresholds are dollars'
  pub threshold : ℕ
  pub base : Base

unfoldable pub rows : List Row
rows =
    -- 1, disability level: 0.9, 648, from 42,000,000; 11.1.2.1, 'Invalidité', 'où B est l'exigence de capital pour risque de niveau'
    record { first = 18; second = 648; threshold = 42000000; base = Base.requirement }
    -- 2, long-term care level: 0.5, 4,330, 75,000,000; 11.1.2.1, 'SLD'
    ∷ record { first = 10; second = 4330; threshold = 75000000; base = Base.requirement }
    -- 3, disability volatility: 0.7, 734, 6,000,000; 11.1.2.2, 'Invalidité', 'où B est l'exigence de capital pour risque de volatilité'
    ∷ record { first = 14; second = 734; threshold = 6000000; base = Base.requirement }
    -- 4, long-term care volatility: 0.3, 1,212, 3,000,000; 11.1.2.2, 'SLD'
    ∷ record { first = 6; second = 1212; threshold = 3000000; base = Base.requirement }
    -- 5, travel and credit: 0.2, 1,788, 5,000,000; 11.1.2.2, 'Voyages et crédit'
    ∷ record { first = 4; second = 1788; threshold = 5000000; base = Base.requirement }
    -- 6, medical and dental: 0.7, 519, 3,000,000; 11.1.2.2, 'Assurance médicale et dentaire (incluant les autres produits A et M)'
    ∷ record { first = 14; second = 519; threshold = 3000000; base = Base.requirement }
    -- 7, critical illness: 0.15, 14,722, 300,000,000; 11.1.2.1 and again 11.1.2.2, 'MG', 'où MN est le montant nominal total'
    ∷ record { first = 3; second = 14722; threshold = 300000000; base = Base.face_amount }
    ∷ []

-- how many there are
abbrev pub row_count : ℕ
row_count = 7

-- no row more is listed, and none less
pub all_counted : length rows ≡ row_count
unfolding rows
all_counted = refl

-- the row of a number from 1 to 7; what stands for another is read by nobody
unfoldable pub row_of : ℕ → Row
row_of n = numbered rows n (record { first = 20; second = 0; threshold = 0; base = Base.requirement })

-- one of the two amounts, in cents
abbrev pub amount_of : Base → ℕ → ℕ → ℕ
amount_of Base.requirement b face = b
amount_of Base.face_amount b face = face

-- the base, in cents
unfoldable pub base_of : Row → ℕ → ℕ → ℕ
base_of w b face = amount_of w.base b face
