-- What the summary that is printed says, read back off the bytes. Document 02, #114: the items, 'With none accepted it prints zeros', and 'If a sheet is
-- accepted, the total is at or above the exact total, by less than the sum of the accepted sheets' allowances'. Assumes nothing.
use Rattle.std.specs.Prelude.{Some, ◌≡◌, List, [], ◌∷◌, ◌++◌, ℕ, ◌-◌, ◌≤◌, get_or, replicate}
use Rattle.guideline.specs.Buffer.{Sheet}
use Rattle.judgement.specs.Judgement.{judgement}
use Rattle.report_line.specs.Line.{found_at}
use Rattle.quarter_stream.specs.Sheets.{sheets_of, count}
use Rattle.summary.specs.declared.Summary.{Summary}
use Rattle.summary.specs.Summaries.{items_of, SummaryIs}
use Rattle.summary.specs.Exact.{TotalDemand}
use Rattle.quarter_text.specs.Printout.{most_sheets, columns, SUM, sound_as, accepted_of}

-- 'the accepted sheets', of which accepted_of has the numbers and the buffers
unfoldable pub sound_ones : List (List ℕ) → List Sheet
sound_ones [] = []
sound_ones (x ∷ xs) = sound_as (judgement x) ++ sound_ones xs

-- of the summary that is printed of the closed sheets xs
pub record SummaryDemand (xs : List (List ℕ)) (text : List ℕ) : Type 0 where
  pub summary : Summary
  -- SUM items 1 to 8 have its numbers, read back off the bytes
  pub reads : (i : ℕ) → 1 ≤ i → i ≤ 8 → found_at columns text SUM 0 i ≡ Some (get_or (items_of summary) (i - 1) 0)
  -- 'With none accepted it prints zeros'
  pub none : accepted_of 1 xs ≡ [] → items_of summary ≡ replicate 8 0
  -- 'If a sheet is accepted': what the items say of the accepted sheets, and how near the total is
  pub some : (accepted_of 1 xs ≡ [] → ⊥) → SummaryIs (accepted_of 1 xs) summary × TotalDemand (sound_ones xs) summary.total

-- of the text that is printed of an input s, where the summary follows
abbrev pub QuarterDemand : List ℕ → List ℕ → Type 0
QuarterDemand s text = count (sheets_of s) ≤ most_sheets → (sheets_of s).rest ≡ [] → SummaryDemand (sheets_of s).closed text
