-- Demand 3 of what the sheet call leaves: a sound judgement's sheet is accepted, and its report's bytes give its figures back. Assumes nothing.
use Rattle.basics.proofs.Common.{◌≡◌, ℕ, ◌-◌, ◌≤◌, true, List, [], ◌∷◌, ◌++◌, length, get_or, Some, arith, subst⁻¹, Each}
use Rattle.sizes.specs.Sizes.{blocks, block_figures, FitsColumns}
use Rattle.guideline.specs.Block.{D, U, LT, K, figures_of}
use Rattle.guideline.specs.Operational.{RO}
use Rattle.guideline.specs.Buffer.{Sheet, sum_k, buffer}
use Rattle.guideline.proofs.Figures.{k_high, k_twice, figures_fit, figures_long}
use Rattle.guideline.proofs.Totals.{totals_fit}
use Rattle.accuracy.proofs.Demand.{block_demand, buffer_demand}
use Rattle.report_line.specs.Line.{number_at}
use Rattle.sheet_line.specs.declared.Entry.{Entry}
use Rattle.places.specs.Entries.{exists}
use Rattle.report.specs.Rows.{BLK, TOT, totals}
use Rattle.report.proofs.Readback.{total_read, figure_read}
use Rattle.credits.specs.Credits.{after_credit}
use Rattle.text_answer.specs.Lent.{Done}
use Rattle.judgement.specs.Sheet.{sheet_of}
use Rattle.judgement.specs.Judgement.{judgement, Judgement.sound}
use Rattle.credits.proofs.Acceptance.{credit_accurate, block_accepted, credit_taken}
use Rattle.judgement.proofs.Acceptance.{exists_within, sound_passed, sound_accepted}
use Rattle.sheet_answer.proofs.Judgements.{by_answer}
use Rattle.sheet_call.specs.Call.{block_rows_of, report_of, sheet_call}
use Rattle.sheet_call.specs.Demand.{ReportedBlock, ReportDemand, Demand3, WholeNumbers, PrintedWhole}

-- the three totals
abbrev totals_of : Sheet → List ℕ
totals_of s = sum_k s.blocks ∷ RO s.volumes s.general ∷ buffer s ∷ []

module _ (s : List ℕ) (es : List Entry) (j : judgement s ≡ sound es) where
  -- five figures that fit their columns
  five : (b : ℕ) → 1 ≤ b → b ≤ blocks → exists es b ≡ true → (length (figures_of (after_credit es b)) ≡ block_figures) × Each FitsColumns (figures_of (after_credit es b))
  five b l h e = (figures_long (after_credit es b), figures_fit (after_credit es b) (block_accepted es (sound_passed s es j).lines (sound_passed s es j).covered b))

  -- the report's bytes, and whatever stands behind them
  module _ (rest : List ℕ) where
    reads_total : (i : ℕ) → 1 ≤ i → i ≤ totals → number_at (report_of es ++ rest) TOT 0 i ≡ Some (get_or (totals_of (sheet_of es)) (i - 1) 0)
    unfolding block_rows_of
    reads_total = total_read (exists es) (λ b. figures_of (after_credit es b)) _ _ _ rest five (totals_fit (sheet_of es) (sound_accepted s es j))

    reads_figure : (b i : ℕ) → exists es b ≡ true → 1 ≤ i → i ≤ block_figures → number_at (report_of es ++ rest) BLK b i ≡ Some (get_or (figures_of (after_credit es b)) (i - 1) 0)
    unfolding block_rows_of
    reads_figure b i e l h =
        let w = exists_within es (sound_passed s es j).lines b e in
        figure_read (exists es) (λ b. figures_of (after_credit es b)) _ _ _ rest five (totals_fit (sheet_of es) (sound_accepted s es j)) b i e w.0 w.1 l h

    reported_block : (b : ℕ) → exists es b ≡ true → ReportedBlock es (report_of es ++ rest) b
    unfolding figures_of
    reported_block b e =
        let v = block_accepted es (sound_passed s es j).lines (sound_passed s es j).covered b in
        let c = credit_taken es (sound_passed s es j).lines (sound_passed s es j).covered b in
        let n = block_demand (after_credit es b) v in
        record {
          d = D (after_credit es b);
          u = U (after_credit es b);
          lt = LT (after_credit es b);
          k = K (after_credit es b);
          reads_d = reads_figure b 2 e (omega arith) (omega arith);
          reads_u = reads_figure b 3 e (omega arith) (omega arith);
          reads_lt = reads_figure b 4 e (omega arith) (omega arith);
          reads_k = reads_figure b 5 e (omega arith) (omega arith);
          twice = k_twice (after_credit es b) v;
          within = k_high (after_credit es b) v;
          k_not_below = n.k_not_below;
          k_near = n.k_near;
          credited_u = c.0;
          credited_lt = c.1;
        }

    pub report_demand : ReportDemand es (report_of es ++ rest)
    report_demand =
        record {
          buffer = buffer (sheet_of es);
          reads_buffer = reads_total 3 (omega arith) (omega arith);
          accurate = buffer_demand (sheet_of es) (sound_accepted s es j);
          blocks = reported_block;
          credits = credit_accurate es (sound_passed s es j).lines;
        }

    -- so is every number
    pub whole_numbers : WholeNumbers es (report_of es ++ rest)
    unfolding figures_of
    whole_numbers =
        record {
          blocks = λ b e.
              record {
                i = reads_figure b 1 e (omega arith) (omega arith);
                d = reads_figure b 2 e (omega arith) (omega arith);
                u = reads_figure b 3 e (omega arith) (omega arith);
                lt = reads_figure b 4 e (omega arith) (omega arith);
                k = reads_figure b 5 e (omega arith) (omega arith);
              };
          sum = reads_total 1 (omega arith) (omega arith);
          ro = reads_total 2 (omega arith) (omega arith);
          total = reads_total 3 (omega arith) (omega arith);
        }

-- ---- whatever the judgement

module _ (s r : List ℕ) where
  abbrev Meets : Done → Type 0
  Meets d = Demand3 s d.outcome d.room

  pub call_demand : Demand3 s (sheet_call s r).outcome (sheet_call s r).room
  call_demand = by_answer report_of s r Meets (λ n p. tt) (λ es e. (es, e, report_demand s es e _))

  abbrev Whole : Done → Type 0
  Whole d = PrintedWhole s d.outcome d.room

  -- no number of an accepted sheet's report is cut
  pub call_whole : PrintedWhole s (sheet_call s r).outcome (sheet_call s r).room
  call_whole = by_answer report_of s r Whole (λ n p. tt) (λ es e. (es, e, whole_numbers s es e _))

  -- so it is of what is equal to what the call gives
  pub promised : (d : Done) → d ≡ sheet_call s r
      → record { answer : d ≡ sheet_call s r; demand3 : Demand3 s d.outcome d.room; printed_whole : PrintedWhole s d.outcome d.room }
  promised d e = record { answer = e; demand3 = subst⁻¹ Meets e call_demand; printed_whole = subst⁻¹ Whole e call_whole }
