-- A sheet that is closed: what is written is its line, and the summary is that with it. Assumes nothing.
use Rattle.basics.proofs.Common.{◌≡◌, ℕ, ◌+◌, ◌^◌, ◌<◌, List, [], ◌∷◌, ◌++◌, sym, ap, ◌∙◌, append-nil, arith}
use Rattle.refusal.specs.Outcome.Outcome.{accepted, refused}
use Rattle.refusal.specs.declared.Place.{Place}
use Rattle.judgement.specs.Judgement.{Judgement, judgement}
use Rattle.quarter_sheet.specs.Answer.{buffer_of}
use Rattle.quarter_sheet.proofs.Buffers.{is_sound, is_turned, answer_most}
use Rattle.text_answer.specs.Printing.{refusal_row}
use Rattle.report_line.specs.Line.{line_in, row_in}
use Rattle.summary.specs.Summaries.{summary_of}
use Rattle.summary.specs.declared.Accepted.{Accepted}
use Rattle.summary.specs.declared.Summary.{Summary}
use Rattle.quarter_text.specs.Printout.{columns, SummaryFits, SHT, sheet_row, sound_as, accepted_as}

module _ (x : List ℕ) (n : ℕ) where
  module _ {b : ℕ} (e : accepted (b ∷ []) ≡ buffer_of (judgement x)) where
    pub accepted_line : row_in columns (sheet_row n (judgement x)) ≡ line_in columns SHT n 1 b
    unfolding sheet_row
    accepted_line = let w = is_sound (judgement x) e in ap (λ (j : Judgement). row_in columns (sheet_row n j)) w.1 ∙ ap (line_in columns SHT n 1) (sym w.2)

    accepted_one : accepted_as n (judgement x) ≡ record { sheet = n; buffer = b } ∷ []
    unfolding accepted_as sound_as
    accepted_one = let w = is_sound (judgement x) e in ap (accepted_as n) w.1 ∙ ap (λ (v : ℕ). record { sheet = n; buffer = v } ∷ []) (sym w.2)

    pub accepted_fits : (m : Summary) → SummaryFits m → (m.count + 1 < 2 ^ 64) × (m.total + b < 2 ^ 64)
    accepted_fits m f = omega (arith, f.0, f.1, answer_most x e)

    pub accepted_with : (zs : List Accepted) {m m' : Summary} {k : ℕ} → k ≡ n → m ≡ summary_of zs
        → ((ys : List Accepted) → m ≡ summary_of ys → m' ≡ summary_of (ys ++ (record { sheet = k; buffer = b } ∷ []))) → m' ≡ summary_of (zs ++ accepted_as n (judgement x))
    accepted_with zs k s a =
        a zs s ∙ ap (λ (v : ℕ). summary_of (zs ++ (record { sheet = v; buffer = b } ∷ []))) k ∙ ap (λ (v : List Accepted). summary_of (zs ++ v)) (sym accepted_one)

  module _ {k : ℕ} {p : Place} (e : refused k p ≡ buffer_of (judgement x)) where
    pub refused_line : row_in columns (sheet_row n (judgement x)) ≡ row_in columns (refusal_row k p)
    unfolding sheet_row
    refused_line = let w = is_turned (judgement x) e in rw w

    pub refused_with : (zs : List Accepted) {m : Summary} → m ≡ summary_of zs → m ≡ summary_of (zs ++ accepted_as n (judgement x))
    unfolding accepted_as sound_as
    refused_with zs s = let w = is_turned (judgement x) e in s ∙ rw (w, append-nil)
