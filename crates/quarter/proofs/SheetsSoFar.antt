-- An input of which there are not more than 60 sheets so far, taken sheet after sheet: a chunk goes on with the open sheet, closes it, or brings a byte
-- after the 60th closing line. The sheets are held cut at the room, which changes no line. Assumes nothing.
-- In order: so far; a chunk more; what there was more than 60 sheets of already.
use Rattle.basics.proofs.Common.{◌≡◌, ℕ, suc, ◌+◌, ◌-◌, ◌<◌, ◌≤◌, ltb, List, [], ◌∷◌, ◌++◌, map, length, get_or, take, drop, is_none, Some, None, Option, ControlFlow, Continue, Break, sym, refl, ap}
use Rattle.basics.proofs.Common.{◌∙◌, subst, append-nil, arith, length-append, length-take-le, drop-cons, ltb-false, ltb-true, le-ltb, lt-ltb, length-map, take-nil, put_mid, put_behind}
use Rattle.std.specs.Prelude.{IfSome}
use Rattle.basics.proofs.Stretches.{front}
use Rattle.judgement.specs.Judgement.{judgement}
use Rattle.sheet_length.specs.Measured.{longest_sheet}
use Rattle.report_line.specs.declared.Row.{Row}
use Rattle.report_line.specs.Line.{line_bytes, row_in, rows_in}
use Rattle.report_line.proofs.Readback.{append_in}
use Rattle.quarter_stream.specs.Sheets.{sheets_in, sheets_of, one, count}
use Rattle.quarter_stream.specs.Steps.{UnclosedSheet, Within, NewSheet, SoFar, ScannedTo}
use Rattle.quarter_stream.specs.declared.OpenSheet.{OpenSheet}
use Rattle.quarter_stream.specs.declared.Closed.{Closed}
use Rattle.quarter_stream.proofs.WholeInput.{held_none}
use Rattle.quarter_stream.proofs.StreamState.{so_far_start, so_far_closed, so_far_rest, so_far_on, so_far_next}
use Rattle.quarter_stream.proofs.Continuation.{byte_after, still_more}
use Rattle.summary.specs.Summaries.{summary_of}
use Rattle.summary.specs.declared.Accepted.{Accepted}
use Rattle.summary.specs.declared.Summary.{Summary}
use Rattle.quarter_text.specs.Printout.{most_sheets, columns, SummaryFits, answered, sheet_row, sheet_rows, accepted_as, accepted_of}
use Rattle.quarter.specs.Steps.{lines_long, longest_output, After}
use Rattle.quarter.specs.declared.Quarter.{Quarter}
use Rattle.quarter_text.proofs.Rows.{all_answered, rows_more, accepted_more, rows_cut, accepted_cut, row_long, accepted_summary_fits}

-- ---- so far

-- the bytes s closed the sheets xs, each cut at the room, and there are not more than 60 with the open one
pub record SheetsSoFar (s : List ℕ) (xs : List (List ℕ)) (room out : List ℕ) (h : OpenSheet) (n : ℕ) (m : Summary) : Type 0 where
  pub so_far : SoFar room h s xs
  pub within : Within (length room) h
  pub room_long : length room ≡ suc longest_sheet
  pub out_long : length out ≡ longest_output
  pub sheets : n ≡ length xs
  pub fits : count (sheets_of s) ≤ most_sheets
  pub lines : take (lines_long n) out ≡ rows_in columns (sheet_rows 1 xs)
  pub summary : m ≡ summary_of (accepted_of 1 xs)

one_none : (r : List ℕ) → one r ≡ 0 → r ≡ []
one_none [] e = refl
one_none (b ∷ r) e = absurd (omega arith)

pub row_alone : (r : Row) → rows_in columns (r ∷ []) ≡ row_in columns r
unfolding rows_in
row_alone r = append-nil (row_in columns r)

pub one_least : (r : List ℕ) → one r ≤ 1
one_least [] = omega arith
one_least (b ∷ r) = omega arith

pub to_going : {s room out : List ℕ} {q : Quarter} {h : OpenSheet} → After s room out q → q.held ≡ Some h
    → SheetsSoFar s (map (take (length room)) (answered s)) room out h q.sheets q.summary
to_going {s} {room} {out} {q} A e =
    record {
      so_far = subst (λ (o : Option OpenSheet). IfSome o (λ k. SoFar room k s (map (take (length room)) (answered s)))) e A.held;
      within = subst (λ (o : Option OpenSheet). IfSome o (Within (length room))) e A.within;
      room_long = A.room_long;
      out_long = A.out_long;
      sheets = A.sheets ∙ sym (length-map (answered s) (take (length room)));
      fits = ltb-false most_sheets (count (sheets_of s)) (sym A.over ∙ ap is_none e);
      lines = A.lines ∙ ap (rows_in columns) (sym (rows_cut 1 (answered s)) ∙ ap (λ (n : ℕ). sheet_rows 1 (map (take n) (answered s))) (sym A.room_long));
      summary = A.summary ∙ ap summary_of (sym (accepted_cut 1 (answered s)) ∙ ap (λ (n : ℕ). accepted_of 1 (map (take n) (answered s))) (sym A.room_long));
    }

module _ {s : List ℕ} {xs : List (List ℕ)} {room out : List ℕ} {h : OpenSheet} {n : ℕ} {m : Summary} (G : SheetsSoFar s xs room out h n m) where
  -- the sheets are those of the bytes, cut
  pub cut_sheets : xs ≡ map (take (length room)) (answered s)
  cut_sheets = so_far_closed G.so_far ∙ ap (map (take (length room))) (sym (all_answered s G.fits))

  cut_long : xs ≡ map (take (suc longest_sheet)) (answered s)
  cut_long = cut_sheets ∙ ap (λ (k : ℕ). map (take k) (answered s)) G.room_long

  pub how_many : n ≡ length (sheets_of s).closed
  how_many = G.sheets ∙ ap length (so_far_closed G.so_far) ∙ length-map (sheets_of s).closed (take (length room))

  -- so far, with what is held of some more bytes that have the same sheets: something, or nothing where there are more than 60
  pub as_after : {u : List ℕ} (o : Option OpenSheet) → is_none o ≡ ltb most_sheets (count (sheets_of u)) → answered u ≡ answered s
      → IfSome o (λ k. SoFar room k u (map (take (length room)) (answered u))) → IfSome o (Within (length room))
      → After u room out (record { held = o; sheets = n; summary = m })
  as_after {u} o v a f w =
      record {
        over = v;
        sheets = how_many ∙ ap length (sym (all_answered s G.fits) ∙ sym a);
        lines = G.lines ∙ ap (rows_in columns) (ap (sheet_rows 1) cut_long ∙ rows_cut 1 (answered s) ∙ ap (sheet_rows 1) (sym a));
        summary = G.summary ∙ ap summary_of (ap (accepted_of 1) cut_long ∙ accepted_cut 1 (answered s) ∙ ap (accepted_of 1) (sym a));
        held = f;
        within = w;
        room_long = G.room_long;
        out_long = G.out_long;
      }

  pub from_going : After s room out (record { held = Some h; sheets = n; summary = m })
  from_going = as_after (Some h) (sym (le-ltb _ _ G.fits)) refl (subst (λ (ys : List (List ℕ)). SoFar room h s ys) cut_sheets G.so_far) G.within

  pub not_many : length xs ≤ most_sheets
  unfolding count
  not_many = omega (arith, G.fits, how_many, G.sheets)

  pub summary_fits : SummaryFits m
  summary_fits = subst SummaryFits (sym G.summary) (accepted_summary_fits 1 xs not_many)

  -- the rest of the bytes is none exactly where the room holds none
  pub rest_none : h.length ≡ 0 → (sheets_of s).rest ≡ []
  rest_none e =
      let t : take (suc longest_sheet) (sheets_of s).rest ≡ [] =
      ap (λ (k : ℕ). take k (sheets_of s).rest) (sym G.room_long) ∙ sym (so_far_rest G.so_far) ∙ ap (λ (k : ℕ). take k room) e in
      held_none longest_sheet (sheets_of s).rest t

  pub rest_some : (h.length ≡ 0 → ⊥) → (sheets_of s).rest ≡ [] → ⊥
  rest_some d e =
      let l : length (take h.length room) ≡ h.length = length-take-le h.length room G.within.length in
      let z : take (length room) (sheets_of s).rest ≡ [] = ap (take (length room)) e ∙ take-nil (length room) in
      d (sym l ∙ ap length (so_far_rest G.so_far ∙ z))

  -- ---- a chunk more

  -- a byte after the 60th closing line
  pub too_many : (chunk : List ℕ) (at : ℕ) → n ≡ most_sheets → at < length chunk
      → After (s ++ drop at chunk) room out (record { held = None; sheets = n; summary = m })
  unfolding count
  too_many chunk at e l =
      let z : one (sheets_of s).rest ≡ 0 = omega (arith, G.fits, how_many) in
      let c : length (sheets_of s).closed ≡ most_sheets = omega (arith, how_many) in
      let b = byte_after s (get_or chunk at 0) (drop (suc at) chunk) (one_none (sheets_of s).rest z) in
      let d : s ++ drop at chunk ≡ s ++ (get_or chunk at 0 ∷ drop (suc at) chunk) = ap (λ (r : List ℕ). s ++ r) (drop-cons chunk at 0 l) in
      let v : most_sheets < count (sheets_of (s ++ drop at chunk)) = rw d (omega (arith, b.0)) in
      let w : answered (s ++ drop at chunk) ≡ answered s =
      rw d (ap (λ (k : ℕ). take k (sheets_of (s ++ (get_or chunk at 0 ∷ drop (suc at) chunk))).closed) (sym c) ∙ b.1 ∙ sym (all_answered s G.fits)) in
      as_after None (sym (lt-ltb _ _ v)) w tt tt

  module _ {chunk : List ℕ} {at : ℕ} where
    module _ {r : ControlFlow Closed OpenSheet} {after : List ℕ} (T : ScannedTo room h chunk at r after) (long : length after ≡ length room) where
      -- the open sheet goes on
      pub goes_on : {k : OpenSheet} → r ≡ Continue k → (n ≡ most_sheets → ⊥) → SheetsSoFar (s ++ drop at chunk) xs after out k n m
      unfolding count
      goes_on {k} e d =
          let R = subst (λ (z : ControlFlow Closed OpenSheet). ScannedTo room h chunk at z after) e T in
          let S = so_far_on G.so_far long R in
          let u = s ++ drop at chunk in
          let c : length (sheets_of u).closed ≡ length xs = sym (ap length (so_far_closed S) ∙ length-map (sheets_of u).closed (take (length after))) in
          record {
            so_far = S;
            within = rw long R.within;
            room_long = long ∙ G.room_long;
            out_long = G.out_long;
            sheets = G.sheets;
            fits = omega (arith, one_least (sheets_of u).rest, not_many, G.sheets);
            lines = G.lines;
            summary = G.summary;
          }

      module _ {j i : ℕ} (e : r ≡ Break (record { length = j; next = i })) where
        R' : ScannedTo room h chunk at (Break (record { length = j; next = i })) after
        R' = subst (λ (z : ControlFlow Closed OpenSheet). ScannedTo room h chunk at z after) e T

        pub closed_within : (j ≤ length after) × (at < i) × (i ≤ length chunk)
        closed_within = rw long R'.within

        -- a sheet is closed: its line is put behind the others, and the next sheet begins
        pub next_sheet : {ys : List ℕ} {k : OpenSheet} {m' : Summary} → (n ≡ most_sheets → ⊥) → ys ≡ row_in columns (sheet_row (n + 1) (judgement (take j after))) → NewSheet k
            → ((zs : List Accepted) → m ≡ summary_of zs → m' ≡ summary_of (zs ++ accepted_as (n + 1) (judgement (take j after))))
            → (t : List ℕ) × (drop at chunk ≡ t ++ drop i chunk)
            × SheetsSoFar (s ++ t) (xs ++ (take j after ∷ [])) after (put_mid (lines_long n) (lines_long n + line_bytes columns - lines_long n) out ys) k (n + 1) m'
        unfolding count
        next_sheet {ys} {k} {m'} d y f a =
            let N = so_far_next G.so_far long R' f in
            let x = take j after in
            let u = s ++ N.0 in
            let S = N.2 in
            let q : 1 + length xs ≡ n + 1 = omega (arith, G.sheets) in
            let l : length ys ≡ line_bytes columns = ap length y ∙ row_long (n + 1) (judgement x) in
            let B : lines_long n + line_bytes columns ≤ length out = omega (arith, G.out_long, not_many, G.sheets) in
            let W = put_behind (lines_long n) out G.lines (line_bytes columns) ys B l in
            let w : lines_long (n + 1) ≡ lines_long n + line_bytes columns = omega arith in
            let p : rows_in columns (sheet_rows 1 (xs ++ (x ∷ []))) ≡ rows_in columns (sheet_rows 1 xs) ++ ys =
            ap (rows_in columns) (rows_more 1 xs x ∙ ap (λ (v : ℕ). sheet_rows 1 xs ++ (sheet_row v (judgement x) ∷ [])) q)
            ∙ append_in columns (sheet_rows 1 xs) (sheet_row (n + 1) (judgement x) ∷ [])
            ∙ ap (λ (v : List ℕ). rows_in columns (sheet_rows 1 xs) ++ v) (row_alone (sheet_row (n + 1) (judgement x)) ∙ sym y) in
            let c : length (sheets_of u).closed ≡ length (xs ++ (x ∷ [])) = sym (ap length (so_far_closed S) ∙ length-map (sheets_of u).closed (take (length after))) in
            let r : take (suc longest_sheet) (sheets_of u).rest ≡ [] =
            ap (λ (v : ℕ). take v (sheets_of u).rest) (sym (long ∙ G.room_long)) ∙ sym (so_far_rest S) ∙ ap (λ (v : UnclosedSheet). v.bytes) (f.is_new after) in
            let z : one (sheets_of u).rest ≡ 0 = ap one (held_none longest_sheet (sheets_of u).rest r) in (
              N.0,
              N.1,
              record {
                so_far = S;
                within = f.within (length after);
                room_long = long ∙ G.room_long;
                out_long = W.long ∙ G.out_long;
                sheets = rw (length-append xs (x ∷ [])) (omega (arith, G.sheets));
                fits = omega (arith, z, c, length-append xs (x ∷ []), not_many, G.sheets);
                lines = rw (w, p) (front W);
                summary = a (accepted_of 1 xs) G.summary ∙ ap summary_of (ap (λ (v : ℕ). accepted_of 1 xs ++ accepted_as v (judgement x)) (sym q) ∙ sym (accepted_more 1 xs x));
              },
            )

-- before any byte
pub at_start : (room out : List ℕ) (k : OpenSheet) {m : Summary} → length room ≡ suc longest_sheet → length out ≡ longest_output → NewSheet k → m ≡ summary_of []
    → After [] room out (record { held = Some k; sheets = 0; summary = m })
unfolding count sheets_in sheet_rows rows_in accepted_of
at_start room out k l o f e =
    from_going (record {
      so_far = so_far_start room k f;
      within = f.within (length room);
      room_long = l;
      out_long = o;
      sheets = refl;
      fits = omega arith;
      lines = refl;
      summary = e;
    })

-- ---- what there was more than 60 sheets of already

pub still_over : {s room out : List ℕ} {q : Quarter} (chunk : List ℕ) → After s room out q → q.held ≡ None → After (s ++ chunk) room out q
still_over {s} {room} {out} {q} chunk A e =
    let M = still_more most_sheets s chunk (ltb-true _ _ (sym A.over ∙ ap is_none e)) in
    record {
      over = ap is_none e ∙ sym (lt-ltb _ _ M.0);
      sheets = A.sheets ∙ ap length (sym M.1);
      lines = A.lines ∙ ap (λ (xs : List (List ℕ)). rows_in columns (sheet_rows 1 xs)) (sym M.1);
      summary = A.summary ∙ ap (λ (xs : List (List ℕ)). summary_of (accepted_of 1 xs)) (sym M.1);
      held = subst (λ (o : Option OpenSheet). IfSome o (λ k. SoFar room k (s ++ chunk) (map (take (length room)) (answered (s ++ chunk))))) (sym e) tt;
      within = subst (λ (o : Option OpenSheet). IfSome o (Within (length room))) (sym e) tt;
      room_long = A.room_long;
      out_long = A.out_long;
    }
