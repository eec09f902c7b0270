-- What the shares call accepts, after document 02, #112: just the blocks that rules 7, 8, 9 and 23 leave; and what is true of the shares where it
-- does. proofs/Acceptance proves both of every call. Assumes nothing.
use Rattle.std.specs.Prelude.{◌≡◌, List, ℕ, ◌+◌, ◌≤◌, length}
use Rattle.refusal.specs.Outcome.{Outcome}
use Rattle.refusal.specs.Outcome.Outcome.{accepted, refused}
use Rattle.refusal.specs.Accepted.{AcceptsJust, IfAccepted}
use Rattle.refusal.specs.declared.Place.{Place}
use Rattle.refusal.specs.declared.Place.TheVariants.{Nowhere}
use Rattle.sizes.specs.Sizes.{block_numbers, parts}
use Rattle.guideline.specs.Block.{K, AcceptedBlock}
use Rattle.block.specs.Call.{block_call}
use Rattle.apportion.specs.Shares.{value_of_part, shares}
use Rattle.apportion.specs.Fair.{Fair}
use Rattle.shares.specs.Margins.{k_without, margin}
use Rattle.shares.specs.Call.{shares_call}

-- what rules 7, 8 and 9 leave, with no negative margin, and not 'all margins zero'
pub record AcceptedShares (b : List ℕ) : Type 0 where
  pub block : AcceptedBlock b
  pub none_negative : (p : ℕ) → 1 ≤ p → p ≤ parts → k_without b p ≤ K b
  pub not_all_zero : ((p : ℕ) → 1 ≤ p → p ≤ parts → margin b p ≡ 0) → ⊥

-- of any numbers: 17 that the rules leave are accepted, with their shares, and no others are
abbrev pub AcceptsShares : List ℕ → Type 0
AcceptsShares b = AcceptsJust (length b ≡ block_numbers) (AcceptedShares b) (shares (K b) (margin b)) (shares_call b)

-- of any numbers, by what the block call says of them
pub record RefusesShares (b : List ℕ) : Type 0 where
  -- what the block call refuses is refused as it refuses it
  pub kept : (n : ℕ) (p : Place) → block_call b ≡ refused n p → shares_call b ≡ refused n p
  -- what it accepts is refused by 23 alone, 'with no place'
  pub refused_by : (n : ℕ) (p : Place) (ws : List ℕ) → block_call b ≡ accepted ws → shares_call b ≡ refused n p → (n ≡ 23) × (p ≡ Nowhere)

-- of a block and the ten shares that the call gives it
pub record SharesOf (b vs : List ℕ) : Type 0 where
  -- there are ten
  pub ten : length vs ≡ parts
  -- 'A part's margin is the reported K less the reported K with that part's amounts zero': no difference is cut at 0
  pub exact : (p : ℕ) → 1 ≤ p → p ≤ parts → margin b p + k_without b p ≡ K b
  -- they total K, and each is within a cent of its unrounded share
  pub fair : Fair (K b) (margin b) (value_of_part vs)

-- what the call promises, by its outcome
abbrev pub SharesDemand : List ℕ → Outcome → Type 0
SharesDemand b = IfAccepted (SharesOf b)
