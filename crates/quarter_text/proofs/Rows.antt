-- The lines of sheets and the accepted ones of them: a sheet more, sheets cut at the room, and how many and how large they are. Assumes nothing.
-- In order: a sheet more, behind the others; sheets cut at a room of one byte more than the longest; how many, and how large.
use Rattle.basics.proofs.Common.{◌≡◌, ℕ, suc, ◌+◌, ◌<◌, ◌≤◌, List, [], ◌∷◌, ◌++◌, map, length, take, sym, refl, ap, ◌∙◌, append_assoc, append-nil, mul-le-mul_left, arith, length-append, take_all}
use Rattle.basics.proofs.Common.{Each, each_append, if_ge}
use Rattle.judgement.specs.Sheet.{sheet_of}
use Rattle.judgement.specs.Judgement.{Judgement, Judgement.turned_away, Judgement.sound, judgement}
use Rattle.judgement.proofs.Acceptance.{sound_accepted}
use Rattle.sheet_length.specs.Measured.{longest_sheet}
use Rattle.quarter_sheet.specs.Answer.{most_buffer}
use Rattle.quarter_sheet.proofs.Buffers.{cut_judged, buffer_most}
use Rattle.report_line.specs.Line.{line_bytes, row_in}
use Rattle.report_line.proofs.Readback.{length_in_lem}
use Rattle.quarter_stream.specs.Sheets.{Sheets, sheets_of, count}
use Rattle.summary.specs.Summaries.{total, summary_of}
use Rattle.summary.specs.declared.Accepted.{Accepted}
use Rattle.summary.proofs.Extremes.{each_map}
use Rattle.summary.proofs.Summaries.{total_most}
use Rattle.quarter_text.specs.Printout.{most_sheets, columns, SummaryFits, answered, sheet_row, sheet_rows, sound_as, accepted_as, accepted_of, summary_rows, closed_or25, ending}

-- not more than 60 sheets are all answered
pub all_answered : (s : List ℕ) → count (sheets_of s) ≤ most_sheets → answered s ≡ (sheets_of s).closed
unfolding count
all_answered s h = take_all most_sheets (sheets_of s).closed (omega arith)

-- .. and no 24 follows them
pub not_more : (s : Sheets) → count s ≤ most_sheets → ending s ≡ closed_or25 s.closed s.rest
unfolding ending
not_more s h = if_ge _ h

-- but the summary, where nothing stands after the last closing line
pub summary_follows : (s : Sheets) → count s ≤ most_sheets → s.rest ≡ [] → ending s ≡ summary_rows (accepted_of 1 s.closed)
unfolding closed_or25
summary_follows s h r = not_more s h ∙ ap (closed_or25 s.closed) r

-- ---- a sheet more, behind the others

pub rows_more : (n : ℕ) (xs : List (List ℕ)) (x : List ℕ) → sheet_rows n (xs ++ (x ∷ [])) ≡ sheet_rows n xs ++ (sheet_row (n + length xs) (judgement x) ∷ [])
unfolding sheet_rows
rows_more n [] x = let z : n ≡ n + 0 = omega arith in rw (← z)
rows_more n (y ∷ xs) x = let e : suc n + length xs ≡ n + suc (length xs) = omega arith in rw (← e, rows_more (suc n) xs x)

pub accepted_more : (n : ℕ) (xs : List (List ℕ)) (x : List ℕ) → accepted_of n (xs ++ (x ∷ [])) ≡ accepted_of n xs ++ accepted_as (n + length xs) (judgement x)
unfolding accepted_of
accepted_more n [] x = let z : n ≡ n + 0 = omega arith in rw (← z) (append-nil (accepted_as n (judgement x)))
accepted_more n (y ∷ xs) x =
    let e : suc n + length xs ≡ n + suc (length xs) = omega arith in
    rw (← e, accepted_more (suc n) xs x) (sym (append_assoc (accepted_as n (judgement y)) (accepted_of (suc n) xs) (accepted_as (suc n + length xs) (judgement x))))

-- ---- sheets cut at a room of one byte more than the longest

pub rows_cut : (n : ℕ) (xs : List (List ℕ)) → sheet_rows n (map (take (suc longest_sheet)) xs) ≡ sheet_rows n xs
unfolding sheet_rows
rows_cut n [] = refl
rows_cut n (x ∷ xs) = rw (cut_judged x, rows_cut (suc n) xs)

pub accepted_cut : (n : ℕ) (xs : List (List ℕ)) → accepted_of n (map (take (suc longest_sheet)) xs) ≡ accepted_of n xs
unfolding accepted_of
accepted_cut n [] = refl
accepted_cut n (x ∷ xs) = rw (cut_judged x, accepted_cut (suc n) xs)

-- ---- how many, and how large

code_long : (n : ℕ) (j : Judgement) → length (sheet_row n j).code ≡ 3
unfolding sheet_row
code_long n (turned_away k p) = refl
code_long n (sound es) = refl

pub row_long : (n : ℕ) (j : Judgement) → length (row_in columns (sheet_row n j)) ≡ line_bytes columns
row_long n j = length_in_lem columns (sheet_row n j).code (sheet_row n j).block (sheet_row n j).item (sheet_row n j).number (code_long n j)

few_as : (n : ℕ) (j : Judgement) → length (accepted_as n j) ≤ 1
unfolding accepted_as sound_as
few_as n (turned_away k p) = omega arith
few_as n (sound es) = omega arith

few_of : (n : ℕ) (xs : List (List ℕ)) → length (accepted_of n xs) ≤ length xs
unfolding accepted_of
few_of n [] = omega arith
few_of n (x ∷ xs) = omega (arith, length-append (accepted_as n (judgement x)) (accepted_of (suc n) xs), few_as n (judgement x), few_of (suc n) xs)

-- an accepted sheet of those below a number: its buffer is bounded
pub record Small (below : ℕ) (a : Accepted) : Type 0 where
  pub sheet : a.sheet < below
  pub buffer : a.buffer ≤ most_buffer

small_as : (n m : ℕ) (x : List ℕ) (j : Judgement) → judgement x ≡ j → n < m → Each (Small m) (accepted_as n j)
unfolding accepted_as sound_as
small_as n m x (turned_away k p) e h = tt
small_as n m x (sound es) e h = (record { sheet = h; buffer = buffer_most (sheet_of es) (sound_accepted x es e) }, tt)

pub small_of : (n m : ℕ) (xs : List (List ℕ)) → n + length xs ≤ m → Each (Small m) (accepted_of n xs)
unfolding accepted_of
small_of n m [] h = tt
small_of n m (x ∷ xs) h =
    each_append (Small m) (accepted_as n (judgement x)) (accepted_of (suc n) xs) (small_as n m x (judgement x) refl (omega arith)) (small_of (suc n) m xs (omega arith))

summary_count : (xs : List Accepted) → (summary_of xs).count ≡ length xs
unfolding summary_of
summary_count [] = refl
summary_count (a ∷ xs) = refl

pub summary_total : (xs : List Accepted) → (summary_of xs).total ≡ total xs
unfolding summary_of total
summary_total [] = refl
summary_total (a ∷ xs) = refl

pub accepted_summary_fits : (n : ℕ) (xs : List (List ℕ)) → length xs ≤ most_sheets → SummaryFits (summary_of (accepted_of n xs))
accepted_summary_fits n xs h =
    let ys = accepted_of n xs in
    let l = few_of n xs in
    let bounded = each_map (λ (a : Accepted) (s : Small (n + length xs) a). s.buffer) ys (small_of n (n + length xs) xs (omega arith)) in
    (omega (arith, summary_count ys), omega (arith, summary_total ys, total_most most_buffer ys bounded, mul-le-mul_left most_buffer l, mul-le-mul_left most_buffer h))
