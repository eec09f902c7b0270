-- The items of the summary are read back off the text, and say what they have to of the accepted sheets; the total is that of their buffers, which is
-- as near the exact total as it has to be.
-- Assumes nothing.
-- In order: the accepted sheets; one sheet is accepted, or none; every line has the columns for what it says; the items of the summary, behind the
-- lines of the sheets; the text.
use Rattle.basics.proofs.Common.{◌≡◌, ℕ, suc, ◌+◌, ◌-◌, ◌/◌, ◌%◌, ◌^◌, ◌<◌, ◌≤◌, Bool, false, eqb, List, [], ◌∷◌, ◌++◌, length, get_or, replicate, Some, Option, sym, refl, ap, ◌∙◌, subst, append-nil}
use Rattle.basics.proofs.Common.{div-le_self, arith, length-take, ltb-false, Each, pick, each_append, if_false, by_test, never}
use native.Mathlib.Nat.{mod-le}
use Rattle.guideline.specs.Buffer.{Sheet, buffer, AcceptedSheet}
use Rattle.judgement.specs.Sheet.{sheet_of}
use Rattle.judgement.specs.Judgement.{Judgement, Judgement.turned_away, Judgement.sound, judgement}
use Rattle.judgement.proofs.Acceptance.{sound_accepted, numbered}
use Rattle.quarter_sheet.proofs.Buffers.{buffer_most}
use Rattle.report_line.specs.declared.Row.{Row}
use Rattle.report_line.specs.Line.{rows_in, equal_bytes, found_at}
use Rattle.report_line.proofs.Readback.{PrintableIn, row_is, number_among, row_found}
use Rattle.text_answer.proofs.LentRoom.{refusal_row_fits}
use Rattle.report.specs.Rows.{row, items_from}
use Rattle.report.proofs.Readback.{items_printable, number_append, items_found}
use Rattle.refusal.specs.declared.Place.TheVariants as place
use Rattle.quarter_stream.specs.Sheets.{Sheets, sheets_of, one, count}
use Rattle.summary.specs.Summaries.{leading, first_extreme, is_smaller, is_larger, total, summary_of, mean, remainder, items_of, SummaryIs}
use Rattle.summary.specs.Exact.{total_buffer, TotalDemand}
use Rattle.summary.specs.declared.Accepted.{Accepted}
use Rattle.summary.specs.declared.Summary.{Summary}
use Rattle.summary.proofs.Summaries.{summary_is}
use Rattle.summary.proofs.Totals.{total_demand}
use Rattle.quarter_text.specs.Printout.{most_sheets, columns, SUM, sheet_row, answered, sheet_rows, sound_as, accepted_as, accepted_of, summary_rows, closed_or25, ending, quarter_rows, quarter_text}
use Rattle.quarter_text.specs.Demand.{sound_ones, QuarterDemand}
use Rattle.quarter_text.proofs.Rows.{all_answered, summary_follows, Small, small_of, summary_total, accepted_summary_fits}

-- ---- the accepted sheets

sound_one : (x : List ℕ) (j : Judgement) → judgement x ≡ j → Each AcceptedSheet (sound_as j)
unfolding sound_as
sound_one x (turned_away n p) e = tt
sound_one x (sound es) e = (sound_accepted x es e, tt)

accepted_sheets : (xs : List (List ℕ)) → Each AcceptedSheet (sound_ones xs)
unfolding sound_ones
accepted_sheets [] = tt
accepted_sheets (x ∷ xs) = each_append AcceptedSheet (sound_as (judgement x)) (sound_ones xs) (sound_one x (judgement x) refl) (accepted_sheets xs)

-- the total of the summary is that of their buffers
total_append : (n : ℕ) (j : Judgement) (ys : List Accepted) (ss : List Sheet) → total ys ≡ total_buffer ss → total (accepted_as n j ++ ys) ≡ total_buffer (sound_as j ++ ss)
unfolding accepted_as sound_as total total_buffer
total_append n (turned_away k p) ys ss e = e
total_append n (sound es) ys ss e = ap (λ (t : ℕ). buffer (sheet_of es) + t) e

total_is : (n : ℕ) (xs : List (List ℕ)) → total (accepted_of n xs) ≡ total_buffer (sound_ones xs)
unfolding accepted_of sound_ones total total_buffer
total_is n [] = refl
total_is n (x ∷ xs) = total_append n (judgement x) (accepted_of (suc n) xs) (sound_ones xs) (total_is (suc n) xs)

demand : (xs : List (List ℕ)) → (sound_ones xs ≡ [] → ⊥) → TotalDemand (sound_ones xs) (total_buffer (sound_ones xs))
demand xs d = go (sound_ones xs) (accepted_sheets xs) d
  where
    go : (ss : List Sheet) → Each AcceptedSheet ss → (ss ≡ [] → ⊥) → TotalDemand ss (total_buffer ss)
    go [] a d = absurd (d refl)
    go (s ∷ ss) a d = total_demand s ss a

-- ---- one sheet is accepted, or none

none_sound : (n : ℕ) (xs : List (List ℕ)) → sound_ones xs ≡ [] → accepted_of n xs ≡ []
unfolding sound_ones sound_as accepted_of accepted_as
none_sound n [] e = refl
none_sound n (x ∷ xs) e = go (judgement x) e (none_sound (suc n) xs)
  where
    go : (j : Judgement) → sound_as j ++ sound_ones xs ≡ [] → (sound_ones xs ≡ [] → accepted_of (suc n) xs ≡ []) → accepted_as n j ++ accepted_of (suc n) xs ≡ []
    go (turned_away k p) q ih = ih q
    go (sound es) q ih = never (cc)

zeros : (ys : List Accepted) → ys ≡ [] → items_of (summary_of ys) ≡ replicate 8 0
unfolding summary_of mean remainder pick
zeros ys e = rw e

said : (ys : List Accepted) → (ys ≡ [] → ⊥) → SummaryIs ys (summary_of ys)
said [] d = absurd (d refl)
said (a ∷ ys) d = summary_is a ys

near : (xs : List (List ℕ)) → (accepted_of 1 xs ≡ [] → ⊥) → TotalDemand (sound_ones xs) (summary_of (accepted_of 1 xs)).total
near xs d = rw (summary_total (accepted_of 1 xs), total_is 1 xs) (demand xs (λ e. d (none_sound 1 xs e)))

-- ---- every line has the columns for what it says

abbrev Fits : Row → Type 0
Fits r = PrintableIn columns r

sheet_fits : (n : ℕ) (x : List ℕ) (j : Judgement) → judgement x ≡ j → n < 100 → Fits (sheet_row n j)
unfolding sheet_row
sheet_fits n x (turned_away k p) e h = let w = numbered x k p e in refusal_row_fits columns k p w.0.two_columns (omega (arith, w.1))
sheet_fits n x (sound es) e h =
    record { code = refl; block = h; item = omega arith; number = omega (arith, buffer_most (sheet_of es) (sound_accepted x es e)) }

sheets_fit : (n : ℕ) (xs : List (List ℕ)) → n + length xs ≤ 100 → Each Fits (sheet_rows n xs)
unfolding sheet_rows
sheets_fit n [] h = tt
sheets_fit n (x ∷ xs) h = (sheet_fits n x (judgement x) refl (omega arith), sheets_fit (suc n) xs (omega arith))

small_first_extreme : (m : ℕ) (before : ℕ → ℕ → Bool) (a : Accepted) (bs : List Accepted) → Small m a → Each (Small m) bs → Small m (first_extreme before a bs)
unfolding first_extreme
small_first_extreme m before a [] p q = p
small_first_extreme m before a (b ∷ bs) p q =
    small_first_extreme m before (leading before a b) bs (by_test (Small m) (before b.buffer a.buffer) b a (λ t. q.0) (λ t. p)) q.1

ends_small : (m : ℕ) → 0 < m → (ys : List Accepted) → Each (Small m) ys → Small m (summary_of ys).smallest × Small m (summary_of ys).largest
unfolding summary_of
ends_small m h [] p = (record { sheet = h; buffer = omega arith }, record { sheet = h; buffer = omega arith })
ends_small m h (a ∷ ys) p = (small_first_extreme m is_smaller a ys p.0 p.1, small_first_extreme m is_larger a ys p.0 p.1)

mean_small : (s : Summary) → (mean s ≤ s.total) × (remainder s ≤ s.total)
unfolding mean remainder
mean_small s = (
  by_test (λ v. v ≤ s.total) (eqb s.count 0) 0 (s.total / s.count) (λ t. omega arith) (λ t. div-le_self s.total s.count),
  by_test (λ v. v ≤ s.total) (eqb s.count 0) 0 (s.total % s.count) (λ t. omega arith) (λ t. mod-le s.total s.count),
)

summary_fits : (xs : List (List ℕ)) → length xs ≤ most_sheets → Each Fits (summary_rows (accepted_of 1 xs))
summary_fits xs h =
    let s = summary_of (accepted_of 1 xs) in
    let f = accepted_summary_fits 1 xs h in
    let w = ends_small 100 (omega arith) (accepted_of 1 xs) (small_of 1 100 xs (omega arith)) in
    let m = mean_small s in
    let low : Each (λ v. v < 10 ^ columns) (s.total ∷ mean s ∷ remainder s ∷ []) = (omega (arith, f.1), (omega (arith, f.1, m.0), (omega (arith, f.1, m.1), tt))) in
    items_printable columns SUM 0 1 (items_of s) refl (omega arith) (omega arith)
    (omega (arith, f.0), (omega (arith, w.0.buffer), (omega (arith, w.0.sheet), (omega (arith, w.1.buffer), (omega (arith, w.1.sheet), low)))))

closed_fits : (xs : List (List ℕ)) (r : List ℕ) → length xs + one r ≤ most_sheets → Each Fits (closed_or25 xs r)
unfolding closed_or25
closed_fits xs [] h = summary_fits xs (omega arith)
closed_fits xs (b ∷ r) h = (refusal_row_fits columns 25 (place.Sheet (suc (length xs))) (omega arith) (omega arith), tt)

ending_fits : (s : Sheets) → Each Fits (ending s)
unfolding ending count
ending_fits s =
    by_test (Each Fits) _ _ _ (λ t. (refusal_row_fits columns 24 (place.Sheet (suc most_sheets)) (omega arith) (omega arith), tt))
    (λ t. closed_fits s.closed s.rest (ltb-false _ _ t))

-- all lines of an input, whatever it ends with
pub rows_fit : (s : List ℕ) → Each Fits (quarter_rows s)
rows_fit s =
    each_append Fits (sheet_rows 1 (answered s)) (ending (sheets_of s))
    (sheets_fit 1 (answered s) (omega (arith, length-take most_sheets (sheets_of s).closed))) (ending_fits (sheets_of s))

-- ---- the items of the summary, behind the lines of the sheets

module _ (i : ℕ) where
  other_code : (n : ℕ) (j : Judgement) → row_is (sheet_row n j) SUM 0 i ≡ false
  unfolding sheet_row row_is equal_bytes pick
  other_code n (turned_away k p) = refl
  other_code n (sound es) = refl

  sheets_passed : (n : ℕ) (xs : List (List ℕ)) (z : Option ℕ) → number_among (sheet_rows n xs) SUM 0 i z ≡ z
  unfolding sheet_rows number_among
  sheets_passed n [] z = refl
  sheets_passed n (x ∷ xs) z = if_false _ (other_code n (judgement x)) ∙ sheets_passed (suc n) xs z

  item_found : (xs : List (List ℕ)) (ns : List ℕ) (z : Option ℕ) → 1 ≤ i → i ≤ length ns
      → number_among (sheet_rows 1 xs ++ items_from 1 SUM 0 ns) SUM 0 i z ≡ Some (get_or ns (i - 1) 0)
  unfolding equal_bytes pick
  item_found xs ns z h k =
      number_append SUM 0 i (sheet_rows 1 xs) (items_from 1 SUM 0 ns) z ∙ sheets_passed 1 xs _ ∙ items_found SUM 0 i refl 1 ns z h (omega arith)

-- ---- the text

pub quarter_demand : (s : List ℕ) → QuarterDemand s (quarter_text s)
unfolding quarter_text
quarter_demand s c r =
    let xs = (sheets_of s).closed in
    let ns = items_of (summary_of (accepted_of 1 xs)) in
    let rs = sheet_rows 1 xs ++ summary_rows (accepted_of 1 xs) in
    let q : quarter_rows s ≡ rs = (λ i. sheet_rows 1 (all_answered s c i) ++ summary_follows (sheets_of s) c r i) in
    let t : rows_in columns (quarter_rows s) ≡ rows_in columns rs ++ [] = ap (rows_in columns) q ∙ sym (append-nil (rows_in columns rs)) in
    let fits = subst (Each Fits) q (rows_fit s) in
    record {
      summary = summary_of (accepted_of 1 xs);
      reads = λ i h k.
          ap (λ (v : List ℕ). found_at columns v SUM 0 i) t
          ∙ row_found columns (omega arith) rs (row SUM 0 i 0) [] fits (record { code = refl; block = omega arith; item = omega arith; number = omega arith })
          ∙ item_found i xs ns _ h (omega (arith, k));
      none = zeros (accepted_of 1 xs);
      some = λ d. (said (accepted_of 1 xs) d, near xs d);
    }
