-- The room, what is known of it and the sheets that were given out, after the bytes so far. What a chunk does to them; and that they are the sheets and
-- the rest of the bytes so far, each as far as the room goes. Assumes nothing.
use Rattle.basics.proofs.Common.{◌≡◌, ℕ, List, [], ◌∷◌, ◌++◌, map, length, take, drop, Continue, Break, sym, refl, ap, ◌∙◌, append-nil, arith}
use Rattle.quarter_stream.specs.Sheets.{sheets_of}
use Rattle.quarter_stream.specs.Steps.{UnclosedSheet, new_sheet, Next, Next.stays_open, Next.closed, next, follow, StreamSheets, closed_then, stream_sheets, scanned, unclosed, NewSheet, ScannedTo}
use Rattle.quarter_stream.specs.Steps.{SoFar, Scanned.none_found, Scanned.found}
use Rattle.quarter_stream.specs.declared.OpenSheet.{OpenSheet}
use Rattle.quarter_stream.proofs.AllSheets.{onwards, sheets_scanned, whole, stream_append, stream_scanned}

-- ---- the bytes up to a closing line

-- of the bytes c those read close the sheet x, and r is left
pub record Read (room : ℕ) (k : UnclosedSheet) (c x r : List ℕ) : Type 0 where
  pub bytes : List ℕ
  pub all : c ≡ bytes ++ r
  pub closes : stream_sheets room k bytes ≡ record { closed = x ∷ []; held = new_sheet }

never : {A : Type 0} {k : UnclosedSheet} {x r : List ℕ} → none_found k ≡ found x r → A
never q = let z : ◌≡◌ {A = ℕ} 0 1 = cc in absurd (let y : ⊥ = omega arith in y)

pub read_closing : (room : ℕ) (c : List ℕ) (k : UnclosedSheet) (x r : List ℕ) → scanned room k c ≡ found x r → Read room k c x r
unfolding scanned stream_sheets follow
read_closing room [] k x r q = never q
read_closing room (b ∷ c) k x r q = go (next room k b) refl q (read_closing room c)
  where
    go : (n : Next) → next room k b ≡ n → follow n (λ j. scanned room j c) (λ y. found y c) ≡ found x r
        → ((j : UnclosedSheet) (x r : List ℕ) → scanned room j c ≡ found x r → Read room j c x r) → Read room k (b ∷ c) x r
    go (stays_open j) e q ih =
        let R = ih j x r q in
        record {
          bytes = b ∷ R.bytes;
          all = ap (λ (l : List ℕ). b ∷ l) R.all;
          closes = ap (λ (n : Next). follow n (λ j. stream_sheets room j R.bytes) (λ y. closed_then y (stream_sheets room new_sheet R.bytes))) e ∙ R.closes;
        }
    go (closed y) e q ih =
        let p : y ≡ x = cc in
        let s : c ≡ r = cc in
        record {
          bytes = b ∷ [];
          all = ap (λ (l : List ℕ). b ∷ l) s;
          closes =
              ap (λ (n : Next). follow n (λ j. stream_sheets room j []) (λ y. closed_then y (stream_sheets room new_sheet []))) e
              ∙ ap (λ (z : List ℕ). record { closed = z ∷ []; held = new_sheet }) p;
        }

-- ---- the bytes so far

pub so_far_start : (room : List ℕ) (h : OpenSheet) → NewSheet h → SoFar room h [] []
unfolding stream_sheets
so_far_start room h f = record { is = ap (λ (k : UnclosedSheet). record { closed = []; held = k }) (sym (f.is_new room)) }

module _ {room : List ℕ} {h : OpenSheet} {s : List ℕ} {xs : List (List ℕ)} (S : SoFar room h s xs) where
  -- the sheets and the rest of the bytes so far
  pub so_far_closed : xs ≡ map (take (length room)) (sheets_of s).closed
  so_far_closed = sym (ap (λ (r : StreamSheets). r.closed) S.is) ∙ (whole (length room) s).closed

  pub so_far_rest : take h.length room ≡ take (length room) (sheets_of s).rest
  so_far_rest = sym (ap (λ (r : StreamSheets). r.held.bytes) S.is) ∙ (whole (length room) s).rest

  more : (c : List ℕ) → stream_sheets (length room) new_sheet (s ++ c)
      ≡ record { closed = xs ++ (stream_sheets (length room) (unclosed room h) c).closed; held = (stream_sheets (length room) (unclosed room h) c).held }
  unfolding onwards
  more c = stream_append (length room) s c new_sheet ∙ ap (λ (r : StreamSheets). onwards (length room) r c) S.is

  module _ {c : List ℕ} {at : ℕ} {after : List ℕ} (l : length after ≡ length room) where
    -- the sheet goes on
    pub so_far_on : {k : OpenSheet} → ScannedTo room h c at (Continue k) after → SoFar after k (s ++ drop at c) xs
    so_far_on {k} T =
        let e : stream_sheets (length room) (unclosed room h) (drop at c) ≡ record { closed = []; held = unclosed after k } =
        stream_scanned (length room) (drop at c) (unclosed room h) ∙ ap (sheets_scanned (length room)) (sym T.answer) in
        record { is = rw l (more (drop at c) ∙ ap (λ (r : StreamSheets). record { closed = xs ++ r.closed; held = r.held }) e ∙ rw (append-nil xs)) }

    -- a sheet is closed, and the next one begins
    pub so_far_next : {n i : ℕ} {k : OpenSheet} → ScannedTo room h c at (Break (record { length = n; next = i })) after → NewSheet k
        → (t : List ℕ) × (drop at c ≡ t ++ drop i c) × SoFar after k (s ++ t) (xs ++ (take n after ∷ []))
    so_far_next {n} {i} {k} T f =
        let R = read_closing (length room) (drop at c) (unclosed room h) (take n after) (drop i c) (sym T.answer) in
        let e = R.closes ∙ ap (λ (j : UnclosedSheet). record { closed = take n after ∷ []; held = j }) (sym (f.is_new after)) in
        (R.bytes, R.all, record { is = rw l (more R.bytes ∙ ap (λ (r : StreamSheets). record { closed = xs ++ r.closed; held = r.held }) e) })
