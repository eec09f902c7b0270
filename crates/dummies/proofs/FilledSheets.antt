-- The report of the program that fills in the first block. Its sheet with the first block in place of each is an accepted one, so that its
-- totals have their columns; it is as long as the program says; every line of a K has the first block's, so that no other K is read of it.
-- Assumes nothing.
-- In order: the sheet with its first block in place of each; its lines; what is read of its report.
use Rattle.basics.proofs.Common.{◌≡◌, ℕ, suc, ◌<◌, true, false, List, [], ◌∷◌, map, length, get_or, drop, Some, None, sym, refl, ap, ◌∙◌, append-nil, arith, length-map, ascending, Each, pick}
use Rattle.basics.proofs.Common.{each_ascending, each_append, each_at, by_test, never}
use mathlib.Core.Bool.{false≢true}
use lib.Seq.{take-append_seam}
use Rattle.refusal.specs.Outcome.Outcome.{accepted}
use Rattle.refusal.specs.declared.Place.{Place}
use Rattle.sizes.specs.Sizes.{blocks, block_figures, FitsColumns}
use Rattle.guideline.specs.Block.{AcceptedBlock, K, figures_of}
use Rattle.guideline.specs.Buffer.{Sheet, count, buffer, CreditsWithin, AcceptedSheet}
use Rattle.guideline.proofs.Figures.{figures_fit, figures_long}
use Rattle.guideline.proofs.Totals.{totals_fit}
use Rattle.report_line.specs.declared.Row.{Row}
use Rattle.report_line.specs.Line.{equal_bytes, found_in, found_at, number_at}
use Rattle.report_line.proofs.Readback.{row_is, number_among, rows_read}
use Rattle.sheet_line.specs.declared.Entry.{Entry}
use Rattle.places.specs.Entries.{exists}
use Rattle.report.specs.Rows.{BLK, TOT, row, items_from, block_rows, report_length}
use Rattle.report.proofs.Readback.{all_printable, buffer_read}
use Rattle.credits.specs.Credits.{after_credit}
use Rattle.sheet_blocks.specs.Blocks.{blocks_to}
use Rattle.judgement.specs.Sheet.{sheet_of}
use Rattle.text_answer.specs.Lent.{Done, untouched}
use Rattle.text_answer.proofs.LentRoom.{filled}
use Rattle.sheet_call.proofs.Rows.{closed_long}
use Rattle.dummies.specs.Dummies.{claimed_report, first_for_all, filled_in}
use Rattle.dummies.specs.Programs.{first_figures, filled_totals, filled_rows, filled_report}

-- ---- the sheet with its first block in place of each

each_same : (b : List ℕ) (bs : List (List ℕ)) → AcceptedBlock b → Each AcceptedBlock (map (λ c. b) bs)
each_same b [] v = tt
each_same b (c ∷ bs) v = (v, each_same b bs v)

first_accepted : (bs : List (List ℕ)) → Each AcceptedBlock bs → Each AcceptedBlock (first_for_all bs)
first_accepted [] v = tt
first_accepted (b ∷ bs) v = (v.0, each_same b bs v.0)

first_long : (bs : List (List ℕ)) → length (first_for_all bs) ≡ length bs
first_long [] = refl
first_long (b ∷ bs) = ap suc (length-map bs _)

filled_accepted : (s : Sheet) → AcceptedSheet s → CreditsWithin (filled_in s) → AcceptedSheet (filled_in s)
filled_accepted s v h =
    record {
      blocks_pass = first_accepted s.blocks v.blocks_pass;
      few = omega (arith, v.few, first_long s.blocks);
      amounts = v.amounts;
      g_low = v.g_low;
      g_high = v.g_high;
      credits_within = h;
    }

-- ---- its lines

-- a row that is K of block b has the number k
unfoldable OfK : ℕ → ℕ → Row → Type 0
OfK k b r = row_is r BLK b 5 ≡ true → r.number ≡ k

other : {A : Type 0} → false ≡ true → A
other e = absurd (false≢true e)

-- among such rows no other number is found
k_among : (k b x : ℕ) (rs : List Row) → Each (OfK k b) rs → number_among rs BLK b 5 None ≡ Some x → x ≡ k
unfolding OfK number_among
k_among k b x [] p e = never (cc)
k_among k b x (r ∷ rs) p e =
    by_test (λ f. f ≡ Some x → x ≡ k) (row_is r BLK b 5) _ _ (λ t q. cc (p.0 t)) (λ t q. k_among k b x rs p.1 q) e

-- ---- what is read of its report

-- both K that can be read are equal
unfoldable pub SameK : Done → Type 0
SameK d = (k₁ k₂ : ℕ) → number_at (claimed_report d) BLK 1 5 ≡ Some k₁ → number_at (claimed_report d) BLK 2 5 ≡ Some k₂ → k₁ ≡ k₂

-- the buffer that is read where it accepts is x
unfoldable pub Reads : ℕ → Done → Type 0
Reads x d = (vs : List ℕ) → d.outcome ≡ accepted vs → number_at d.room TOT 0 3 ≡ Some x

-- of a refusal nothing is read
pub none_read : (n : ℕ) (p : Place) (r : List ℕ) → SameK (untouched n p r)
unfolding SameK found_at found_in
none_read n p r k₁ k₂ e f = never (cc)

pub none_accepted : (x n : ℕ) (p : Place) (r : List ℕ) → Reads x (untouched n p r)
unfolding Reads
none_accepted x n p r vs e = never (cc)

module _ (es : List Entry) (v : AcceptedSheet (sheet_of es)) (h : CreditsWithin (filled_in (sheet_of es))) where
  -- every figure has its columns
  five : (length (first_figures es) ≡ block_figures) × Each FitsColumns (first_figures es)
  five =
      let w : AcceptedBlock [] =
      record { ir_fits = omega arith; lt_within = omega arith; lt_seven = refl; pc_fits = omega arith; credit_fits = omega arith; market_fits = omega arith } in
      (figures_long _, figures_fit _ (each_at AcceptedBlock [] w (sheet_of es).blocks v.blocks_pass 0))

  -- and so has every total
  totals : Each FitsColumns (filled_totals es)
  totals = totals_fit (filled_in (sheet_of es)) (filled_accepted (sheet_of es) v h)

  pub report_long : length (filled_report es) ≡ report_length (count (sheet_of es))
  unfolding sheet_of blocks_to
  report_long = closed_long (exists es) (after_credit es) (λ b. first_figures es) (λ b. five.0) (filled_totals es) refl

  -- every line of a K has the first block's
  ks : (b : ℕ) → Each (OfK (K (get_or (sheet_of es).blocks 0 [])) b) (filled_rows es)
  unfolding OfK items_from figures_of row_is equal_bytes pick
  ks b =
      each_append (OfK _ b) (ascending (exists es) (λ b. block_rows b (first_figures es)) blocks) _
      (each_ascending (exists es) (λ b. block_rows b (first_figures es)) (OfK _ b) blocks (λ c l k u. (other, (other, (other, (other, ((λ t. refl), tt)))))))
      (other, (other, (other, tt)))

  -- so that is what is read, if anything
  k_read : (b k : ℕ) → b < 100 → number_at (filled_report es) BLK b 5 ≡ Some k → k ≡ K (get_or (sheet_of es).blocks 0 [])
  unfolding found_at found_in
  k_read b k l e =
      let p = all_printable (exists es) (λ b. first_figures es) _ _ _ [] (λ b l k t. five) totals in
      let c = rows_read (filled_rows es) (row BLK b 5 0) [] p (record { code = refl; block = l; item = omega arith; number = omega arith }) in
      k_among _ b k (filled_rows es) (ks b) (sym c ∙ rw append-nil e)

  -- what it claims is these lines, and nothing that stood behind them
  claimed : (r : List ℕ) → claimed_report (filled (filled_report es) r) ≡ filled_report es
  claimed r = take-append_seam (filled_report es) (drop (length (filled_report es)) r)

  pub k_same : (r : List ℕ) → SameK (filled (filled_report es) r)
  unfolding SameK
  k_same r k₁ k₂ e f =
      let read : (b k : ℕ) → number_at (claimed_report (filled (filled_report es) r)) BLK b 5 ≡ Some k → number_at (filled_report es) BLK b 5 ≡ Some k =
      λ b k e. ap (λ (m : List ℕ). number_at m BLK b 5) (sym (claimed r)) ∙ e in
      k_read 1 k₁ (omega arith) (read 1 k₁ e) ∙ sym (k_read 2 k₂ (omega arith) (read 2 k₂ f))

  pub reads_filled : (r : List ℕ) → Reads (buffer (filled_in (sheet_of es))) (filled (filled_report es) r)
  unfolding Reads
  reads_filled r vs e = buffer_read (exists es) (λ b. first_figures es) _ _ _ (drop (length (filled_report es)) r) (λ b l k t. five) totals
