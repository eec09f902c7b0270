-- The margins of a block's parts, after document 02, #112: 'Planning wants K divided among ten parts, the seven risks, PC, credit and market ..
-- A part's margin is the reported K less the reported K with that part's amounts zero.' Parts 1 to 7 are the risks, 8 is PC, 9 credit, 10
-- market. A block is the block call's 17 numbers: seven pairs IR(i), LT(i), then PC, credit and market. Assumes nothing.
use Rattle.std.specs.Prelude.{◌≡◌, Bool, List, ℕ, ◌+◌, ◌-◌, ◌*◌, ◌≤◌, ltb, eqb, set}
use Rattle.basics.specs.Pick.{pick}
use Rattle.sizes.specs.Sizes.{risks, pc_position}
use Rattle.guideline.specs.Block.{ir, lt, PC, credit, market, K}

-- the parts after the risks, with one amount each: PC
abbrev pub pc_part : ℕ
pc_part = risks + 1

-- credit
abbrev pub credit_part : ℕ
credit_part = pc_part + 1

-- market
abbrev pub market_part : ℕ
market_part = pc_part + 2

-- where the amount of such a part stands, by how many stand before
abbrev pub position_of : ℕ → ℕ
position_of p = pc_position + (p - pc_part)

-- the block with the amounts of part p zero: IR and LT of a risk, at positions 2p − 2 and 2p − 1, or the one amount of PC, credit or market
unfoldable pub without : List ℕ → ℕ → List ℕ
without b p = pick (ltb risks p) (set b (position_of p) 0) (set (set b (2 * p - 2) 0) (2 * p - 1) 0)

-- the same in document 01's letters: the amounts of part p are 0, all others as they were; proofs/PartsLeftOut proves it of every part
pub record WithoutPart (b : List ℕ) (p : ℕ) : Type 0 where
  pub ir_is : (i : ℕ) → 1 ≤ i → i ≤ risks → ir (without b p) i ≡ pick (eqb p i) 0 (ir b i)
  pub lt_is : (i : ℕ) → 1 ≤ i → i ≤ risks → lt (without b p) i ≡ pick (eqb p i) 0 (lt b i)
  pub pc_is : PC (without b p) ≡ pick (eqb p pc_part) 0 (PC b)
  pub credit_is : credit (without b p) ≡ pick (eqb p credit_part) 0 (credit b)
  pub market_is : market (without b p) ≡ pick (eqb p market_part) 0 (market b)

-- 'the reported K with that part's amounts zero'
unfoldable pub k_without : List ℕ → ℕ → ℕ
k_without b p = K (without b p)

-- the margin of part p is negative
abbrev pub negative : List ℕ → ℕ → Bool
negative b p = ltb (K b) (k_without b p)

-- the margin of part p where it is not negative; else 0
unfoldable pub margin : List ℕ → ℕ → ℕ
margin b p = K b - k_without b p
