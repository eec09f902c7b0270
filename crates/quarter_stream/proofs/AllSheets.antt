-- What the steps give together: the sheets of the whole input, each as far as the room goes; and what a chunk more after some bytes gives. Assumes nothing.
use Rattle.basics.proofs.Common.{◌≡◌, ℕ, zero, suc, true, List, [], ◌∷◌, ◌++◌, map, take, sym, refl, ap, ◌∙◌, append_assoc, append-nil, take-nil, append_snoc, if_eq, if_ne}
use Rattle.quarter_stream.specs.Sheets.{closing_minuses, Sheets, and_then, sheets_of}
use Rattle.quarter_stream.specs.Steps.{UnclosedSheet, new_sheet, with_byte, Next, Next.stays_open, Next.closed, next, follow, StreamSheets, closed_then, stream_sheets, Scanned, Scanned.none_found}
use Rattle.quarter_stream.specs.Steps.{Scanned.found, scanned}
use Rattle.quarter_stream.proofs.ClosingLines.{NoFeed, count_from, count_more, all_minuses, closing_count, count_closing, behind_none, behind_behind, line_left, line_passed, line_closes, behind}
use Rattle.quarter_stream.proofs.ClosingLines.{sheets, by_lines}
use Rattle.quarter_stream.proofs.Places.{sheets_of_lem}

-- ---- the room

take_put : (n : ℕ) (x : List ℕ) (b : ℕ) → take n (take n x ++ (b ∷ [])) ≡ take n (x ++ (b ∷ []))
take_put zero x b = refl
take_put (suc n) [] b = refl
take_put (suc n) (a ∷ x) b = ap (λ (r : List ℕ). a ∷ r) (take_put n x b)

-- what is held after whole lines w and a line l that has begun
abbrev pub held_after : ℕ → List ℕ → List ℕ → UnclosedSheet
held_after room w l = record { lines = take room w; bytes = take room (w ++ l); minuses = count_from 0 l }

held_new_sheet : (room : ℕ) → held_after room [] [] ≡ new_sheet
unfolding count_from
held_new_sheet room = λ i. record { lines = take-nil room i; bytes = take-nil room i; minuses = 0 }

module _ (room : ℕ) (w l : List ℕ) where
  more : (b : ℕ) → with_byte room (take room (w ++ l)) b ≡ take room (w ++ (l ++ (b ∷ [])))
  more b = take_put room (w ++ l) b ∙ ap (take room) (append_assoc w l (b ∷ []))

  next_byte : (b : ℕ) → (b ≡ 10 → ⊥) → next room (held_after room w l) b ≡ stays_open (held_after room w (l ++ (b ∷ [])))
  unfolding next
  next_byte b n = if_ne _ n ∙ (λ i. stays_open (record { lines = take room w; bytes = more b i; minuses = sym (count_more 0 l b) i }))

  next_line : (b : ℕ) → b ≡ 10 → (count_from 0 l ≡ closing_minuses → ⊥) → next room (held_after room w l) b ≡ stays_open (held_after room (w ++ (l ++ (10 ∷ []))) [])
  unfolding next count_from
  next_line b e n =
      let p : with_byte room (take room (w ++ l)) b ≡ take room (w ++ (l ++ (10 ∷ []))) = rw e (more 10) in
      let q : with_byte room (take room (w ++ l)) b ≡ take room (w ++ (l ++ (10 ∷ [])) ++ []) = p ∙ ap (take room) (sym (append-nil (w ++ (l ++ (10 ∷ []))))) in
      if_eq _ e ∙ if_ne _ n ∙ (λ i. stays_open (record { lines = p i; bytes = q i; minuses = 0 }))

  next_closes : (b : ℕ) → b ≡ 10 → count_from 0 l ≡ closing_minuses → next room (held_after room w l) b ≡ closed (take room w)
  unfolding next
  next_closes b e n = if_eq _ e ∙ if_eq _ n

-- ---- the whole

-- the steps close these sheets and hold this rest, each as far as the room goes
pub record Agrees (room : ℕ) (r : StreamSheets) (s : Sheets) : Type 0 where
  pub closed : r.closed ≡ map (take room) s.closed
  pub rest : r.held.bytes ≡ take room s.rest

follow_on : {A : Type 0} {n : Next} {k : UnclosedSheet} (f : UnclosedSheet → A) (g : List ℕ → A) → n ≡ stays_open k → follow n f g ≡ f k
unfolding follow
follow_on f g e = rw e

follow_closed : {A : Type 0} {n : Next} {s : List ℕ} (f : UnclosedSheet → A) (g : List ℕ → A) → n ≡ closed s → follow n f g ≡ g s
unfolding follow
follow_closed f g e = rw e

ends : (room : ℕ) (w : List ℕ) (r : StreamSheets) (s : Sheets) → Agrees room r s → Agrees room (closed_then (take room w) r) (behind w (and_then [] s))
unfolding behind
ends room w r s a = record { closed = rw (append-nil, a.closed); rest = a.rest }

holds_end : (room : ℕ) (w l : List ℕ) → Agrees room (record { closed = []; held = held_after room w l }) (behind w (record { closed = []; rest = l }))
unfolding behind
holds_end room w l = record { closed = refl; rest = refl }

from : (room : ℕ) (s w l : List ℕ) → NoFeed l → Agrees room (stream_sheets room (held_after room w l) s) (behind w (sheets (l ++ s)))
unfolding stream_sheets
from room =
    by_lines (λ w l s. Agrees room (stream_sheets room (held_after room w l) s) (behind w (sheets (l ++ s))))
    (λ w l f. rw (append-nil l, line_left true l f) (holds_end room w l))
    (λ w l s b n h. rw (follow_on _ _ (next_byte room w l b n), ← append_snoc l b s) h)
    (λ w s h.
    rw (follow_closed _ _ (next_closes room w all_minuses 10 refl (count_closing _ refl)), line_closes s)
    (ends room w _ _ (rw (held_new_sheet room, behind_none (sheets s)) at h)))
    (λ w l s f o h.
    rw (follow_on _ _ (next_line room w l 10 refl (λ q. o (closing_count l q))), line_passed l s f o, behind_behind w (l ++ (10 ∷ [])) (sheets s)) h)

pub whole : (room : ℕ) (s : List ℕ) → Agrees room (stream_sheets room new_sheet s) (sheets_of s)
whole room s = rw (sheets_of_lem s) (rw (held_new_sheet room, behind_none (sheets s)) at (from room s [] [] tt))

-- ---- chunks

-- a chunk more after some bytes
unfoldable pub onwards : ℕ → StreamSheets → List ℕ → StreamSheets
onwards room r c = record { closed = r.closed ++ (stream_sheets room r.held c).closed; held = (stream_sheets room r.held c).held }

pub stream_append : (room : ℕ) (s t : List ℕ) (k : UnclosedSheet) → stream_sheets room k (s ++ t) ≡ onwards room (stream_sheets room k s) t
unfolding stream_sheets onwards follow
stream_append room [] t k = refl
stream_append room (b ∷ s) t k = go (next room k b) (stream_append room s t)
  where
    go : (n : Next) → ((j : UnclosedSheet) → stream_sheets room j (s ++ t) ≡ onwards room (stream_sheets room j s) t)
        → follow n (λ j. stream_sheets room j (s ++ t)) (λ x. closed_then x (stream_sheets room new_sheet (s ++ t)))
        ≡ onwards room (follow n (λ j. stream_sheets room j s) (λ x. closed_then x (stream_sheets room new_sheet s))) t
    go (stays_open j) ih = ih j
    go (closed x) ih = ap (closed_then x) (ih new_sheet)

-- what all bytes do, by what the first of them do
abbrev pub sheets_scanned : ℕ → Scanned → StreamSheets
sheets_scanned room (none_found k) = record { closed = []; held = k }
sheets_scanned room (found s bs) = closed_then s (stream_sheets room new_sheet bs)

-- the first closing line of a chunk, and then the rest of it
pub stream_scanned : (room : ℕ) (s : List ℕ) (k : UnclosedSheet) → stream_sheets room k s ≡ sheets_scanned room (scanned room k s)
unfolding stream_sheets scanned follow
stream_scanned room [] k = refl
stream_scanned room (b ∷ s) k = go (next room k b) (stream_scanned room s)
  where
    go : (n : Next) → ((j : UnclosedSheet) → stream_sheets room j s ≡ sheets_scanned room (scanned room j s))
        → follow n (λ j. stream_sheets room j s) (λ x. closed_then x (stream_sheets room new_sheet s)) ≡ sheets_scanned room (follow n (λ j. scanned room j s) (λ x. found x s))
    go (stays_open j) ih = ih j
    go (closed x) ih = refl
