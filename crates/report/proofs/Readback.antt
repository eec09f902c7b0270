-- The numbers of a report, read back off its lines: those of another code, of another block and of another item are passed. Assumes nothing.
-- In order: which row is found; the lines of the blocks that exist; a whole report.
use Rattle.basics.proofs.Common.{◌≡◌, ℕ, zero, suc, ◌+◌, ◌-◌, ◌^◌, ◌<◌, ◌≤◌, Bool, true, false, List, [], ◌∷◌, ◌++◌, length, get_or, Some, Option, refl, ◌∙◌, arith, eq-eqb, ne_eqb, ℕ_discrete}
use Rattle.basics.proofs.Common.{ascending, Each, pick, each_ascending, each_append, if_true, if_false, if_eq, if_ne, by_test}
use Rattle.sizes.specs.Sizes.{blocks, block_figures, number_columns, FitsColumns}
use Rattle.report_line.specs.declared.Row.{Row}
use Rattle.report_line.specs.Line.{print_rows, equal_bytes, number_at}
use Rattle.report_line.proofs.Readback.{PrintableIn, Printable, row_is, number_among, rows_read}
use Rattle.report.specs.Rows.{BLK, TOT, row, items_from, block_rows, total_rows, totals as three}

pub items_printable : (w : ℕ) (c : List ℕ) (b i : ℕ) (ns : List ℕ) → length c ≡ 3 → b < 100 → i + length ns ≤ 100 → Each (λ n. n < 10 ^ w) ns
    → Each (PrintableIn w) (items_from i c b ns)
unfolding items_from
items_printable w c b i [] h k l f = tt
items_printable w c b i (n ∷ ns) h k l f =
    (record { code = h; block = k; item = omega arith; number = f.0 }, items_printable w c b (suc i) ns h k (omega arith) f.1)

-- ---- which row is found

module _ (c : List ℕ) (b i : ℕ) where
  pub number_append : (rs ss : List Row) (z : Option ℕ) → number_among (rs ++ ss) c b i z ≡ number_among rs c b i (number_among ss c b i z)
  unfolding number_among
  number_append [] ss z = refl
  number_append (r ∷ rs) ss z = rw (number_append rs ss z)

  -- lines of which none is looked for
  items_passed : (c' : List ℕ) (b' : ℕ) → ((j n : ℕ) → row_is (row c' b' j n) c b i ≡ false) → (j : ℕ) (ns : List ℕ) (z : Option ℕ)
      → number_among (items_from j c' b' ns) c b i z ≡ z
  unfolding items_from number_among
  items_passed c' b' h j [] z = refl
  items_passed c' b' h j (n ∷ ns) z = if_false _ (h j n) ∙ items_passed c' b' h (suc j) ns z

  -- lines of that code and block, the item among them
  pub items_found : equal_bytes c c ≡ true → (j : ℕ) (ns : List ℕ) (z : Option ℕ) → j ≤ i → i < j + length ns
      → number_among (items_from j c b ns) c b i z ≡ Some (get_or ns (i - j) 0)
  unfolding items_from number_among row_is
  items_found h j [] z l k = absurd (omega arith)
  items_found h j (n ∷ ns) z l k =
      elim (ℕ_discrete j i) [
        | yes e ↦
            let d : i - j ≡ 0 = omega arith in
            if_true _ (if_true _ h ∙ if_eq _ e ∙ eq-eqb b b refl) ∙ rw d
        | no e ↦
            let d : i - j ≡ suc (i - suc j) = omega arith in
            if_false _ (if_true _ h ∙ if_ne _ e) ∙ items_found h (suc j) ns z (omega arith) (omega arith) ∙ rw d
      ]

-- a block's lines are passed where another block is looked for
others_pass : (b' b : ℕ) → (b' ≡ b → ⊥) → (i : ℕ) (f : List ℕ) (z : Option ℕ) → number_among (block_rows b' f) BLK b i z ≡ z
unfolding row_is
others_pass b' b ne i f z =
    items_passed BLK b i BLK b' (λ j n. by_test (λ t. t ≡ false) _ _ _ (λ t. by_test (λ t. t ≡ false) _ _ _ (λ u. ne_eqb b' b ne) (λ u. refl)) (λ t. refl)) 1 f z

-- ---- the lines of the blocks that exist

module _ (exists : ℕ → Bool) (f : ℕ → List ℕ) where
  abbrev lines_to : ℕ → List Row
  lines_to n = ascending exists (λ b. block_rows b (f b)) n

  -- the lines up to block n leave what is looked for to those after them
  passed : (c : List ℕ) (b i n : ℕ) → ((b' : ℕ) → b' ≤ n → (z : Option ℕ) → number_among (block_rows b' (f b')) c b i z ≡ z)
      → (z : Option ℕ) → number_among (lines_to n) c b i z ≡ z
  unfolding ascending number_among
  passed c b i zero h z = refl
  passed c b i (suc n) h z =
      number_append c b i (lines_to n) _ z ∙ passed c b i n (λ b' p. h b' (omega arith)) _
      ∙ by_test (λ rs. number_among rs c b i z ≡ z) _ _ _ (λ t. h (suc n) (omega arith) z) (λ t. refl)

  module _ (b i : ℕ) (here : exists b ≡ true) (first : 1 ≤ b) (low : 1 ≤ i) (high : i ≤ block_figures) (five : length (f b) ≡ block_figures) where
    found : (n : ℕ) → b ≤ n → (z : Option ℕ) → number_among (lines_to n) BLK b i z ≡ Some (get_or (f b) (i - 1) 0)
    unfolding ascending equal_bytes pick
    found zero h z = absurd (omega arith)
    found (suc n) h z =
        let mine : pick (exists b) (block_rows b (f b)) [] ≡ block_rows b (f b) = if_true [] here in
        number_append BLK b i (lines_to n) _ z
        ∙ elim (ℕ_discrete b (suc n)) [
          | no ne ↦ found n (omega (arith, ne)) _
          | yes e ↦ passed BLK b i n (λ b' p. others_pass b' b (λ q. omega arith) i (f b')) _
              ∙ rw (← e, mine) (items_found BLK b i refl 1 (f b) z low (omega arith))
        ]

-- ---- a whole report

module _ (exists : ℕ → Bool) (f : ℕ → List ℕ) (sum ro buffer : ℕ) (rest : List ℕ)
    (five : (b : ℕ) → 1 ≤ b → b ≤ blocks → exists b ≡ true → (length (f b) ≡ block_figures) × Each FitsColumns (f b))
    (totals : Each FitsColumns (sum ∷ ro ∷ buffer ∷ [])) where
  abbrev pub rows : List Row
  rows = ascending exists (λ b. block_rows b (f b)) blocks ++ total_rows sum ro buffer

  pub all_printable : Each Printable rows
  all_printable =
      each_append Printable (lines_to exists f blocks) _
      (each_ascending exists (λ b. block_rows b (f b)) Printable blocks
      (λ b l h t. let g = five b l h t in items_printable number_columns BLK b 1 (f b) refl (omega arith) (omega (arith, g.0)) g.1))
      (items_printable number_columns TOT 0 1 _ refl (omega arith) (omega arith) totals)

  reads : (c : List ℕ) (b i : ℕ) → length c ≡ 3 → b < 100 → i < 100
      → number_at (print_rows rows ++ rest) c b i ≡ number_among (lines_to exists f blocks) c b i (number_among (total_rows sum ro buffer) c b i (number_at rest c b i))
  reads c b i h k l =
      rows_read rows (row c b i 0) rest all_printable (record { code = h; block = k; item = l; number = omega arith })
      ∙ number_append c b i (lines_to exists f blocks) _ _

  -- each total, and each figure of a block that exists, is read whole
  pub total_read : (i : ℕ) → 1 ≤ i → i ≤ three → number_at (print_rows rows ++ rest) TOT 0 i ≡ Some (get_or (sum ∷ ro ∷ buffer ∷ []) (i - 1) 0)
  unfolding equal_bytes pick row_is
  total_read i l m =
      reads TOT 0 i refl (omega arith) (omega arith) ∙ passed exists f TOT 0 i blocks (λ b p. items_passed TOT 0 i BLK b (λ j n. refl) 1 (f b)) _
      ∙ items_found TOT 0 i refl 1 (sum ∷ ro ∷ buffer ∷ []) _ (omega arith) (omega arith)

  pub buffer_read : number_at (print_rows rows ++ rest) TOT 0 3 ≡ Some buffer
  buffer_read = total_read 3 (omega arith) (omega arith)

  pub figure_read : (b i : ℕ) → exists b ≡ true → 1 ≤ b → b ≤ blocks → 1 ≤ i → i ≤ block_figures → number_at (print_rows rows ++ rest) BLK b i ≡ Some (get_or (f b) (i - 1) 0)
  figure_read b i t h k l m =
      reads BLK b i refl (omega arith) (omega arith) ∙ found exists f b i t h l m (five b h k t).0 blocks k _
