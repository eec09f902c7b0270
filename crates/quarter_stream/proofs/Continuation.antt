-- An input that goes on: its closed sheets stay, and then come those of what was left and of what follows. So what follows the n-th closing line is a
-- further sheet, closed or not, and more than n sheets stay more than n. Assumes nothing.
use Rattle.basics.proofs.Common.{◌≡◌, ℕ, ◌+◌, ◌<◌, true, List, [], ◌∷◌, ◌++◌, length, take, sym, refl, ap, ◌∙◌, append_assoc, append-nil, arith, length-append, take_at, append_snoc, take-append-le}
use Rattle.quarter_stream.specs.Sheets.{Sheets, and_then, sheets_of, one, count}
use Rattle.quarter_stream.proofs.ClosingLines.{NoFeed, all_minuses, behind, behind_none, behind_behind, line_left, line_passed, line_closes, sheets, by_lines}
use Rattle.quarter_stream.proofs.Places.{sheets_of_lem}
use Rattle.quarter_stream.proofs.WholeInput.{some_sheet}

-- the sheets of two inputs, the first of which ends with a closing line
abbrev pub followed : Sheets → Sheets → Sheets
followed a b = record { closed = a.closed ++ b.closed; rest = b.rest }

-- w are whole lines, none of which closes a sheet
abbrev Passed : List ℕ → Type 0
Passed w = (u : List ℕ) → sheets (w ++ u) ≡ behind w (sheets u)

passed_more : (w l : List ℕ) → NoFeed l → (l ≡ all_minuses → ⊥) → Passed w → Passed (w ++ (l ++ (10 ∷ [])))
passed_more w l f o p u =
    ap sheets (append_assoc w (l ++ (10 ∷ [])) u ∙ ap (λ (r : List ℕ). w ++ r) (append_snoc l 10 u))
    ∙ p (l ++ (10 ∷ u))
    ∙ ap (behind w) (line_passed l u f o)
    ∙ behind_behind w (l ++ (10 ∷ [])) (sheets u)

-- y is x as far as it is closed, and then the sheets of its rest with t behind it
abbrev Continues : List ℕ → Sheets → Sheets → Type 0
Continues t x y = y ≡ followed x (sheets (x.rest ++ t))

continues_closed : (t w : List ℕ) (x y : Sheets) → Continues t x y → Continues t (behind w (and_then [] x)) (behind w (and_then [] y))
unfolding behind
continues_closed t w x y g = ap (λ (z : Sheets). behind w (and_then [] z)) g

continues_line : (t w l : List ℕ) → Passed w → Continues t (behind w (record { closed = []; rest = l })) (behind w (sheets (l ++ t)))
unfolding behind
continues_line t w l p = sym (p (l ++ t)) ∙ ap sheets (sym (append_assoc w l t))

from : (t s w l : List ℕ) → NoFeed l → Passed w → Continues t (behind w (sheets (l ++ s))) (behind w (sheets (l ++ (s ++ t))))
from t =
    by_lines (λ w l s. Passed w → Continues t (behind w (sheets (l ++ s))) (behind w (sheets (l ++ (s ++ t)))))
    (λ w l f p. rw (append-nil l, line_left true l f) (continues_line t w l p))
    (λ w l s b n h p. rw (← append_snoc l b s, ← append_snoc l b (s ++ t)) (h p))
    (λ w s h p.
    rw (line_closes s, line_closes (s ++ t))
    (continues_closed t w (sheets s) (sheets (s ++ t)) (rw (behind_none (sheets s), behind_none (sheets (s ++ t))) at (h (λ u. sym (behind_none (sheets u)))))))
    (λ w l s f o h p.
    rw (line_passed l s f o, line_passed l (s ++ t) f o, behind_behind w (l ++ (10 ∷ [])) (sheets s), behind_behind w (l ++ (10 ∷ [])) (sheets (s ++ t)))
    (h (passed_more w l f o p)))

-- the closed sheets stay, and what follows is what the rest and t come to
pub sheets_continued : (s t : List ℕ) → sheets_of (s ++ t) ≡ followed (sheets_of s) (sheets_of ((sheets_of s).rest ++ t))
sheets_continued s t =
    let h = rw (behind_none (sheets s), behind_none (sheets (s ++ t))) at (from t s [] [] tt (λ u. sym (behind_none (sheets u)))) in
    sheets_of_lem (s ++ t) ∙ h ∙ (λ i. followed (sym (sheets_of_lem s) i) (sym (sheets_of_lem ((sym (sheets_of_lem s) i).rest ++ t)) i))

-- after a closing line the sheets are those up to there and those of what follows
pub sheets_appended : (s t : List ℕ) → (sheets_of s).rest ≡ [] → sheets_of (s ++ t) ≡ followed (sheets_of s) (sheets_of t)
sheets_appended s t e = sheets_continued s t ∙ ap (λ (r : List ℕ). followed (sheets_of s) (sheets_of (r ++ t))) e

-- ---- the number of sheets, the unclosed one too

pub some_count : (b : ℕ) (t : List ℕ) → 0 < count (sheets_of (b ∷ t))
unfolding count
some_count b t = go (sheets_of (b ∷ t)).closed (sheets_of (b ∷ t)).rest refl refl
  where
    go : (xs : List (List ℕ)) (r : List ℕ) → (sheets_of (b ∷ t)).closed ≡ xs → (sheets_of (b ∷ t)).rest ≡ r → 0 < length xs + one r
    go [] [] p q = absurd (some_sheet b t p q)
    go [] (c ∷ r) p q = omega arith
    go (x ∷ xs) r p q = omega arith

-- a byte after a closing line: there is a sheet more than were closed, and these stay the first
pub byte_after : (s : List ℕ) (b : ℕ) (t : List ℕ) → (sheets_of s).rest ≡ []
    → (length (sheets_of s).closed < count (sheets_of (s ++ (b ∷ t)))) × (take (length (sheets_of s).closed) (sheets_of (s ++ (b ∷ t))).closed ≡ (sheets_of s).closed)
unfolding count
byte_after s b t h =
    let e = sheets_appended s (b ∷ t) h in
    let p = some_count b t in
    let n : length ((sheets_of s).closed ++ (sheets_of (b ∷ t)).closed) ≡ length (sheets_of s).closed + length (sheets_of (b ∷ t)).closed =
    length-append (sheets_of s).closed (sheets_of (b ∷ t)).closed in
    rw e (rw n (omega arith), take_at (sheets_of s).closed (sheets_of (b ∷ t)).closed (length (sheets_of s).closed) refl)

-- more sheets than n stay more, whatever follows, and the first n stay as they are
pub still_more : (n : ℕ) (s t : List ℕ) → n < count (sheets_of s) → (n < count (sheets_of (s ++ t))) × (take n (sheets_of (s ++ t)).closed ≡ take n (sheets_of s).closed)
unfolding count
still_more n s t h = rw (sheets_continued s t) (go (sheets_of s).rest h)
  where
    xs : List (List ℕ)
    xs = (sheets_of s).closed

    go : (r : List ℕ) → n < length xs + one r →
        let y = sheets_of (r ++ t) in
        (n < length (xs ++ y.closed) + one y.rest) × (take n (xs ++ y.closed) ≡ take n xs)
    go [] k = let y = sheets_of t in (rw (length-append xs y.closed) (omega arith), take-append-le n xs y.closed (omega arith))
    go (b ∷ r) k =
        let y = sheets_of (b ∷ (r ++ t)) in
        let c = some_count b (r ++ t) in
        (rw (length-append xs y.closed) (omega arith), take-append-le n xs y.closed (omega arith))
