-- The numbers that are taken off the tables: how a list of them is written pair by pair, and that for tables of entries they are the
-- numbers of those entries. Assumes nothing.
-- In order: a list written pair by pair; the pairs of a block, and the three amounts after them; the numbers of entries.
use Rattle.basics.proofs.Common.{◌≡◌, ℕ, zero, suc, ◌+◌, ◌*◌, ◌/◌, ◌%◌, ◌<◌, ◌≤◌, List, length, set, sym, refl, ◌∙◌, append_assoc, add-one, arith, dec_le, Each, Wrote, nothing, next, all_written}
use Rattle.sizes.specs.Sizes.{blocks, block_numbers, pc_position, credit_position, market_position, volume_classes, volume_pairs}
use Rattle.codes.specs.Codes.{pc_class, credit_class, market_class, risk_classes, other_classes, general_classes, Key}
use Rattle.sheet_line.specs.Rules.{AcceptedLine}
use Rattle.codes.specs.declared.Code.{Code, TheVariants.Rsk, TheVariants.Oth, TheVariants.Acq, TheVariants.Gen}
use Rattle.sheet_line.specs.declared.Entry.{Entry}
use Rattle.places.specs.Entries.{lookup, first_of, second_of}
use Rattle.places.specs.Places.{places, second_places, index_of, table, tabled}
use Rattle.places.proofs.Indexes.{index_most, lookup_table, none_tabled}
use Rattle.ledger.proofs.Bounds.{second_behind}
use Rattle.ledger.specs.Numbers.{pairs, block_by, volumes_by, block_of, volumes_of, general_amount}

-- ---- a list written pair by pair

-- the first i pairs are written
pub record Copied (f g : ℕ → ℕ) (l₀ : List ℕ) (i : ℕ) (l : List ℕ) : Type 0 where
  pub wrote : Wrote l₀ (2 * i) (pairs f g i) l

module _ {f g : ℕ → ℕ} {l₀ : List ℕ} where
  pub no_pair : Copied f g l₀ 0 l₀
  unfolding pairs
  no_pair = record { wrote = nothing l₀ }

  pub next_pair : {i x y : ℕ} {l : List ℕ} → Copied f g l₀ i l → 2 * i + 1 < length l₀ → x ≡ f i → y ≡ g i
      → Copied f g l₀ (i + 1) (set (set l (2 * i) x) (2 * i + 1) y)
  unfolding pairs
  next_pair {i} W h p q =
      let e : 2 * (i + 1) ≡ suc (suc (2 * i)) = omega arith in
      record { wrote = rw (e, add-one i, add-one (2 * i), p, q) (next (next W.wrote (f i) (omega arith)) (g i) (omega arith)) }

-- the pairs of a block, and the three amounts after them
pub block_written : (b : ℕ) (firsts seconds : List ℕ) {l₀ l : List ℕ} {x y z i : ℕ} → length l₀ ≡ block_numbers
    → Copied (λ j. tabled firsts Rsk b (j + 1)) (λ j. tabled seconds Rsk b (j + 1)) l₀ i l → i ≡ risk_classes
    → x ≡ tabled firsts Oth b pc_class → y ≡ tabled firsts Oth b credit_class → z ≡ tabled firsts Oth b market_class
    → set (set (set l pc_position x) credit_position y) market_position z ≡ block_by (tabled firsts) (tabled seconds) b
unfolding block_by
block_written b firsts seconds h W e p q r =
    let W' = next (next (next (rw e at W.wrote) (tabled firsts Oth b pc_class) (omega arith)) (tabled firsts Oth b credit_class) (omega arith)) (tabled firsts Oth b market_class) (omega arith) in
    rw (p, q, r) (all_written W' (omega arith) ∙ simp append_assoc)

pairs_same : (f g f' g' : ℕ → ℕ) (n : ℕ) → ((i : ℕ) → i < n → f i ≡ f' i) → ((i : ℕ) → i < n → g i ≡ g' i) → pairs f g n ≡ pairs f' g' n
unfolding pairs
pairs_same f g f' g' zero p q = refl
pairs_same f g f' g' (suc n) p q =
    rw (pairs_same f g f' g' n (λ i h. p i (omega arith)) (λ i h. q i (omega arith)), p n (omega arith), q n (omega arith))

-- ---- the numbers of entries

-- where nothing was acquired, the volumes are those of the VOL lines
pub none_acquired : (es : List Entry) → ((b c : ℕ) → lookup first_of es Acq b c ≡ 0) → volumes_of es ≡ volumes_by (lookup first_of es) (lookup second_of es)
unfolding volumes_by
none_acquired es z =
    pairs_same _ _ _ _ volume_pairs (λ i l. refl) (λ i l. omega (arith, z (i / volume_classes + 1) (i % volume_classes + 1)))

module _ (es : List Entry) (all : Each AcceptedLine es) where
  -- what the tables hold of a code's line, where block and class are in its range
  pub first_table : (k : Code) (b c : ℕ) → Key k b c → tabled (table places first_of es) k b c ≡ lookup first_of es k b c
  first_table k b c v = lookup_table places first_of es k b c v (index_most k b c v) all

  pub second_table : (k : Code) (b c : ℕ) → Key k b c → tabled (table second_places second_of es) k b c ≡ lookup second_of es k b c
  second_table k b c v =
      elim (dec_le second_places (index_of k b c)) [
        | yes h ↦ none_tabled second_places second_of es k b c h ∙ sym (second_behind es all k b c v h)
        | no h ↦ lookup_table second_places second_of es k b c v (omega arith) all
      ]

  pub block_table : (b : ℕ) → (1 ≤ b) × (b ≤ blocks)
      → block_by (tabled (table places first_of es)) (tabled (table second_places second_of es)) b ≡ block_of es b
  unfolding block_by
  block_table b h =
      rw (
        pairs_same _ _ _ _ risk_classes (λ i l. first_table Rsk b (i + 1) (risk i l)) (λ i l. second_table Rsk b (i + 1) (risk i l)),
        other pc_class (omega arith),
        other credit_class (omega arith),
        other market_class (omega arith),
      )
    where
      risk : (i : ℕ) → i < risk_classes → Key Rsk b (i + 1)
      risk i l = record { low = h.0; high = h.1; one = omega arith; most = omega arith }

      other : (c : ℕ) → (1 ≤ c) × (c ≤ other_classes) → tabled (table places first_of es) Oth b c ≡ lookup first_of es Oth b c
      other c l = first_table Oth b c (record { low = h.0; high = h.1; one = l.0; most = l.1 })

  pub general_table : (c : ℕ) → (1 ≤ c) × (c ≤ general_classes) → tabled (table places first_of es) Gen 0 c ≡ general_amount es c
  general_table c h = first_table Gen 0 c (record { low = omega arith; high = omega arith; one = h.0; most = h.1 })
