-- What the rules of a line guarantee of a sheet's numbers. Assumes nothing.
-- In order: what is looked up, by code, block and class; the pairs of a list; the numbers of a block; those of the volumes.
use Rattle.basics.proofs.Common.{◌≡◌, ℕ, zero, suc, ◌+◌, ◌*◌, ◌/◌, ◌%◌, ◌<◌, ◌≤◌, Bool, true, false, List, [], ◌∷◌, ◌++◌, length, get_or, refl, ◌∙◌, append-nil, arith, length-append}
use Rattle.basics.proofs.Common.{get_or-append-add, ℕ_discrete, dec_le, get_or-eq_default, append_snoc, Each, pick, each_at}
use lib.Seq.{get_or-append_seam}
use Rattle.amount.specs.Amount.{limit}
use Rattle.sizes.specs.Sizes.{block_numbers, last_lt_position, volume_classes, volume_numbers, largest_scalar, volume_pairs}
use Rattle.guideline.specs.Operational.{current, prior}
use Rattle.codes.specs.Codes.{pc_class, credit_class, market_class, risk_classes, scalar_class, row_of, Key}
use Rattle.codes.specs.declared.Code.{Code, TheVariants.Rsk, TheVariants.Oth, TheVariants.Vol, TheVariants.Acq, TheVariants.Gen}
use Rattle.sheet_line.specs.declared.Entry.{Entry}
use Rattle.sheet_line.specs.Rules.{AcceptedLine, AcceptedAmounts}
use Rattle.places.specs.Entries.{has_key, lookup, first_of, second_of, mark_of}
use Rattle.places.specs.Places.{second_places, index_of}
use Rattle.places.proofs.Indexes.{single_behind}
use Rattle.places.proofs.Keys.{same_key}
use Rattle.ledger.specs.Numbers.{pairs, block_by, volumes_by, block_of, volumes_of, general_amount}

-- ---- what is looked up is 0, or is in a line with that code and class

key_amounts : (k : Code) (b c : ℕ) (e : Entry) → AcceptedLine e → has_key k b c e ≡ true → Key k b c × AcceptedAmounts (row_of k b) c e.first e.second
key_amounts k b c e a q = let s = same_key k b c e q in rw (s.code, s.block, s.class) (a.key, a.amounts)

module _ (R : ℕ → ℕ → ℕ → Type 0) (k : Code) (b c : ℕ) (none : R 0 0 0) (some : (f s : ℕ) → Key k b c → AcceptedAmounts (row_of k b) c f s → R f s 1) where
  looked_up : (es : List Entry) → Each AcceptedLine es → R (lookup first_of es k b c) (lookup second_of es k b c) (lookup mark_of es k b c)
  unfolding lookup pick
  looked_up [] all = none
  looked_up (e ∷ es) all = go (has_key k b c e) refl (looked_up es all.1)
    where
      go : (t : Bool) → has_key k b c e ≡ t → R (lookup first_of es k b c) (lookup second_of es k b c) (lookup mark_of es k b c)
          → R (pick t e.first (lookup first_of es k b c)) (pick t e.second (lookup second_of es k b c)) (pick t 1 (lookup mark_of es k b c))
      go true q r = let s = key_amounts k b c e all.0 q in some e.first e.second s.0 s.1
      go false q r = r

module _ (es : List Entry) (all : Each AcceptedLine es) where
  pub first_most : (k : Code) (b c : ℕ) → lookup first_of es k b c ≤ limit
  first_most k b c = looked_up (λ f s m. f ≤ limit) k b c (omega arith) (λ f s v a. a.first_most) es all

  pub second_most : (k : Code) (b c : ℕ) → lookup second_of es k b c ≤ limit
  second_most k b c = looked_up (λ f s m. s ≤ limit) k b c (omega arith) (λ f s v a. a.second_most) es all

  trend_most : (b c : ℕ) → lookup second_of es Rsk b c ≤ lookup first_of es Rsk b c
  trend_most b c = looked_up (λ f s m. s ≤ f) Rsk b c (omega arith) (λ f s v a. a.trend refl) es all

  -- a line behind the places of second amounts has none
  pub second_behind : (k : Code) (b c : ℕ) → Key k b c → second_places ≤ index_of k b c → lookup second_of es k b c ≡ 0
  second_behind k b c v h = looked_up (λ f s m. s ≡ 0) k b c refl (λ f s w a. a.single (single_behind k b c v h)) es all

  trend_none : (b : ℕ) → lookup second_of es Rsk b risk_classes ≡ 0
  trend_none b = looked_up (λ f s m. s ≡ 0) Rsk b risk_classes refl (λ f s v a. a.single (omega arith)) es all

  -- a code has no line outside its range
  pub none_outside : (k : Code) (b c : ℕ) → (Key k b c → ⊥) → (lookup first_of es k b c ≡ 0) × (lookup second_of es k b c ≡ 0) × (lookup mark_of es k b c ≡ 0)
  none_outside k b c n = looked_up (λ f s m. (f ≡ 0) × (s ≡ 0) × (m ≡ 0)) k b c (refl, refl, refl) (λ f s v a. absurd (n v)) es all

  -- a line that isn't there has no amount
  pub none_unmarked : (k : Code) (b c : ℕ) → lookup mark_of es k b c ≡ 0 → lookup first_of es k b c ≡ 0
  none_unmarked k b c = looked_up (λ f s m. m ≡ 0 → f ≡ 0) k b c (λ z. refl) (λ f s v a z. absurd (omega arith)) es all

  -- rule 10 lets no other scalar pass, where there is one
  pub scalar_within : 0 < lookup mark_of es Gen 0 scalar_class → (1 ≤ general_amount es scalar_class) × (general_amount es scalar_class ≤ largest_scalar)
  scalar_within =
      looked_up (λ f s m. 0 < m → (1 ≤ f) × (f ≤ largest_scalar)) Gen 0 scalar_class (λ h. absurd (omega arith)) (λ f s v a h. a.scalar refl) es all

  pub general_most : (c : ℕ) → general_amount es c ≤ limit
  general_most c = first_most Gen 0 c

-- ---- the numbers of a list

-- a number that is an amount
abbrev Amount : ℕ → Type 0
Amount n = n ≤ limit

module _ (f g : ℕ → ℕ) where
  pub length_pairs : (n : ℕ) → length (pairs f g n) ≡ 2 * n
  unfolding pairs
  length_pairs zero = refl
  length_pairs (suc n) = simp (length-append, length_pairs n) (omega arith)

  pairs_more : (n : ℕ) (t : List ℕ) → pairs f g (suc n) ++ t ≡ pairs f g n ++ (f n ∷ g n ∷ t)
  unfolding pairs
  pairs_more n t = append_snoc (pairs f g n ++ (f n ∷ [])) (g n) t ∙ append_snoc (pairs f g n) (f n) (g n ∷ t)

  -- amounts before others are amounts
  pairs_most : ((i : ℕ) → Amount (f i)) → ((i : ℕ) → Amount (g i)) → (n : ℕ) (t : List ℕ) → Each Amount t → Each Amount (pairs f g n ++ t)
  unfolding pairs
  pairs_most p q zero t a = a
  pairs_most p q (suc n) t a = rw (pairs_more n t) (pairs_most p q n (f n ∷ g n ∷ t) (p n, (q n, a)))

  -- where the i-th pair is, whatever follows the pairs
  pairs_at : (n : ℕ) (t : List ℕ) (i : ℕ) → i < n → (get_or (pairs f g n ++ t) (2 * i) 0 ≡ f i) × (get_or (pairs f g n ++ t) (2 * i + 1) 0 ≡ g i)
  pairs_at zero t i h = absurd (omega arith)
  pairs_at (suc n) t i h =
      elim (ℕ_discrete i n) [
        | no q ↦ rw (pairs_more n t) (pairs_at n (f n ∷ g n ∷ t) i (omega arith))
        | yes q ↦
            rw (q, pairs_more n t, ← length_pairs n)
            (get_or-append_seam (pairs f g n) (f n) (g n ∷ t) 0, get_or-append-add (pairs f g n) (f n ∷ g n ∷ t) 1 0)
      ]

  pairs_alone : (n i : ℕ) → i < n → (get_or (pairs f g n) (2 * i) 0 ≡ f i) × (get_or (pairs f g n) (2 * i + 1) 0 ≡ g i)
  pairs_alone n i h = rw append-nil at (pairs_at n [] i h)

-- the numbers of a block as the block call wants them
pub record RuledNumbers (ns : List ℕ) : Type 0 where
  pub long : length ns ≡ block_numbers
  pub amounts : (k : ℕ) → get_or ns k 0 ≤ limit
  pub last : get_or ns last_lt_position 0 ≡ 0
  pub trend : (i : ℕ) → i < risk_classes → get_or ns (2 * i + 1) 0 ≤ get_or ns (2 * i) 0

module _ (es : List Entry) (all : Each AcceptedLine es) where
  pub risk_at : (b i : ℕ) → i < risk_classes
      → (get_or (block_of es b) (2 * i) 0 ≡ lookup first_of es Rsk b (i + 1)) × (get_or (block_of es b) (2 * i + 1) 0 ≡ lookup second_of es Rsk b (i + 1))
  unfolding block_by
  risk_at b i h = pairs_at _ _ risk_classes _ i h

  block_amounts : (b : ℕ) → Each Amount (block_of es b)
  unfolding block_by
  block_amounts b =
      pairs_most _ _ (λ i. first_most es all Rsk b (i + 1)) (λ i. second_most es all Rsk b (i + 1)) risk_classes _
      (first_most es all Oth b pc_class, (first_most es all Oth b credit_class, (first_most es all Oth b market_class, tt)))

  pub block_ruled : (b : ℕ) → RuledNumbers (block_of es b)
  unfolding block_by
  block_ruled b =
      record {
        long = simp (length-append, length_pairs);
        amounts = each_at Amount 0 (omega arith) (block_of es b) (block_amounts b);
        last = (risk_at b 6 (omega arith)).1 ∙ trend_none es all b;
        trend = λ i h. rw ((risk_at b i h).0, (risk_at b i h).1) (trend_most es all b (i + 1));
      }

  pub length_volumes : length (volumes_of es) ≡ volume_numbers
  unfolding volumes_by
  length_volumes = length_pairs _ _ volume_pairs

  -- the pair of a class: the first amount of its VOL line; and the second one, joined with the amount of its ACQ line
  pub volume_at : (k : ℕ) → k < volume_pairs →
      let b = k / volume_classes + 1 in
      let c = k % volume_classes + 1 in
      (current (volumes_of es) k ≡ lookup first_of es Vol b c) × (prior (volumes_of es) k ≡ lookup second_of es Vol b c + lookup first_of es Acq b c)
  unfolding volumes_by
  volume_at k h = pairs_alone _ _ volume_pairs k h

  -- so a prior volume is at most two amounts
  pub volumes_most : (k : ℕ) → (current (volumes_of es) k ≤ limit) × (prior (volumes_of es) k ≤ 2 * limit)
  volumes_most k =
      elim (dec_le volume_pairs k) [
        | yes h ↦ (rest (2 * k) (omega arith), omega (arith, rest (2 * k + 1) (omega arith)))
        | no h ↦
            let b = k / volume_classes + 1 in
            let c = k % volume_classes + 1 in
            let v = volume_at k (omega arith) in
            (omega (arith, v.0, first_most es all Vol b c), omega (arith, v.1, second_most es all Vol b c, first_most es all Acq b c))
      ]
    where
      rest : (j : ℕ) → volume_numbers ≤ j → get_or (volumes_of es) j 0 ≤ limit
      rest j h = omega (arith, get_or-eq_default (volumes_of es) 0 {n = j} (rw length_volumes h))
