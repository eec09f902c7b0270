-- The sheet call's text is what judging finds: what is written of the figures is the report of the sheet's lines, by whose length rule 14 goes, and it
-- is never longer than the longest report. Assumes nothing.
use Rattle.basics.proofs.Common.{◌≡◌, ℕ, ◌<◌, ◌≤◌, List, [], ◌∷◌, ◌++◌, length, drop, sym, refl, ap, ◌∙◌, arith}
use Rattle.refusal.specs.Outcome.Outcome.{accepted, refused}
use Rattle.refusal.specs.declared.Place.{Place, TheVariants.Nowhere}
use Rattle.sizes.specs.Sizes.{blocks}
use Rattle.report_line.specs.Line.{print_rows}
use Rattle.sheet_line.specs.declared.Entry.{Entry}
use Rattle.text_answer.specs.Lent.{Done, TooLong, untouched, lent, Text.bytes}
use Rattle.text_answer.specs.Printing.{ReadsRefusal, printout}
use Rattle.text_answer.proofs.LentRoom.{lent_short, lent_filled}
use Rattle.report.specs.Rows.{total_rows, table_rows, report_bytes, report_length, longest_report}
use Rattle.judgement.specs.Sheet.{sheet_of}
use Rattle.judgement.specs.Judgement.{judgement, findings, Findings.figures, Judgement.turned_away}
use Rattle.sheet_blocks.proofs.WorkedBlocks.{few_blocks}
use Rattle.judgement.proofs.Rules.{findings_figures}
use Rattle.sheet_answer.proofs.Judgements as judged
use Rattle.sheet_answer.proofs.Judgements.{of_lines}
use Rattle.sheet_call.specs.Call.{report_of, answer_to, sheet_call}
use Rattle.sheet_call.proofs.Rows.{table_lines, report_long}

module _ (s r : List ℕ) (n : ℕ) (rows : List (ℕ × List ℕ)) (sum ro x : ℕ) (e : figures n rows sum ro x ≡ findings (judgement s)) where
  pub few : n ≤ blocks
  unfolding sheet_of
  few = let f = findings_figures (judgement s) e in omega (arith, f.2.count_is, few_blocks f.0 blocks)

  -- the lines of the sheet, and the length of their report
  abbrev lines : List Entry
  lines = (findings_figures (judgement s) e).0

  long : {m : ℕ} → m ≡ report_length n → m ≡ length (report_of lines)
  long l = l ∙ ap report_length (findings_figures (judgement s) e).2.count_is ∙ sym (report_long lines)

  is_call : lent (bytes (report_of lines)) r ≡ sheet_call s r
  is_call = of_lines report_of s r (findings_figures (judgement s) e).1 refl

  pub too_short : {m : ℕ} → m ≡ report_length n → length r < m → untouched 14 Nowhere r ≡ sheet_call s r
  too_short l h = lent_short _ r refl (long l) h ∙ is_call

  pub reported : {m : ℕ} {r' : List ℕ} → m ≡ report_length n → m ≤ length r → r' ≡ report_bytes rows (sum ∷ ro ∷ x ∷ []) ++ drop (report_length n) r
      → ◌≡◌ {A = Done} (record { outcome = accepted (m ∷ []); room = r' }) (sheet_call s r)
  unfolding report_bytes
  reported l h q =
      let F = (findings_figures (judgement s) e).2 in
      let t = ap table_rows F.rows_are ∙ table_lines lines in
      let w = q ∙ (λ i. print_rows (t i ++ total_rows (F.sum_is i) (F.ro_is i) (F.buffer_is i)) ++ drop (sym l i) r) in
      lent_filled _ r refl (long l) h w ∙ is_call

-- ---- its length

pub never_longer : (es : List Entry) → length (report_of es) ≤ longest_report
unfolding sheet_of
never_longer es = omega (arith, report_long es, few_blocks es blocks)

-- 'lends room for the longest report, so that it never answers 14'
pub never_14 : (s r : List ℕ) → longest_report ≤ length r → (p : Place) → (sheet_call s r).outcome ≡ refused 14 p → ⊥
never_14 s r = judged.never_14 report_of s r (λ es e. never_longer es)

-- 'lent report shorter than the report': a sheet refused by 14 has a report, longer than the lent one, and a lent report of its length takes it
pub refused_by_14 : (s r : List ℕ) (p : Place) → (sheet_call s r).outcome ≡ refused 14 p → (p ≡ Nowhere) × TooLong (sheet_call s) (answer_to (judgement s)) r
refused_by_14 s r = judged.refused_by_14 report_of s r

-- ---- its REF line

-- the number and the place of a refusal fit their columns: both are read back off the line that is printed
pub refusal_read : (s : List ℕ) (n : ℕ) (p : Place) → judgement s ≡ turned_away n p → ReadsRefusal n p (printout (answer_to (judgement s)))
refusal_read s = judged.refusal_read report_of s
