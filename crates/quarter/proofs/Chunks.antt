-- A chunk taken sheet after sheet, whichever bytes came before it. Assumes nothing.
-- In order: of the bytes s and a chunk, up to a place of the chunk; the loop; a state that has more than 60 sheets already.
use Rattle.basics.proofs.Common.{◌≡◌, ℕ, ◌+◌, ◌-◌, ◌<◌, ◌≤◌, List, ◌++◌, length, take, drop, Some, None, Option, ControlFlow, Continue, Break, sym, refl, ap, ◌∙◌, subst, append_assoc, append-nil}
use Rattle.basics.proofs.Common.{arith, drop_of_length-le, put_mid, put_behind, from_further}
use Rattle.basics.proofs.Stretches.{behind}
use Rattle.judgement.specs.Judgement.{judgement}
use Rattle.report_line.specs.Line.{line_bytes, row_in}
use Rattle.quarter_stream.specs.Steps.{Within, NewSheet, ScannedTo}
use Rattle.quarter_stream.specs.declared.OpenSheet.{OpenSheet}
use Rattle.quarter_stream.specs.declared.Closed.{Closed}
use Rattle.summary.specs.Summaries.{summary_of}
use Rattle.summary.specs.declared.Accepted.{Accepted}
use Rattle.summary.specs.declared.Summary.{Summary}
use Rattle.quarter_text.specs.Printout.{most_sheets, columns, SummaryFits, sheet_row, accepted_as}
use Rattle.quarter.specs.Steps.{lines_long, longest_output, After, Reachable, Taken}
use Rattle.quarter.specs.declared.Quarter.{Quarter}
use Rattle.quarter_text.proofs.Rows.{row_long}
use Rattle.quarter.proofs.SheetsSoFar.{SheetsSoFar, to_going, from_going, not_many, summary_fits, too_many, goes_on, closed_within, next_sheet, still_over}

-- what is known: with what is held, or where there are more than 60 sheets
abbrev pub known : Option OpenSheet → ℕ → Summary → Quarter
known o n m = record { held = o; sheets = n; summary = m }

-- ---- of the bytes s and a chunk, up to a place of the chunk

pub record Reached (s chunk : List ℕ) (at : ℕ) (room out : List ℕ) (h : OpenSheet) (n : ℕ) (m : Summary) : Type 0 where
  pub bytes : List ℕ
  pub cut : List (List ℕ)
  pub joins : bytes ++ drop at chunk ≡ s ++ chunk
  pub going : SheetsSoFar bytes cut room out h n m

pub begins : {s room out : List ℕ} {q : Quarter} {h : OpenSheet} (chunk : List ℕ) → After s room out q → q.held ≡ Some h
    → Reached s chunk 0 room out h q.sheets q.summary
begins {s} chunk A e = record { bytes = s; cut = _; joins = refl; going = to_going A e }

module _ {s chunk : List ℕ} {at : ℕ} {room out : List ℕ} {h : OpenSheet} {n : ℕ} {m : Summary} (R : Reached s chunk at room out h n m) where
  pub reached_end : length chunk ≤ at → After (s ++ chunk) room out (known (Some h) n m)
  reached_end l =
      let e : R.bytes ≡ s ++ chunk = sym (append-nil R.bytes) ∙ ap (λ (r : List ℕ). R.bytes ++ r) (sym (drop_of_length-le chunk l)) ∙ R.joins in
      subst (λ (u : List ℕ). After u room out (known (Some h) n m)) e (from_going R.going)

  pub reached_many : n ≡ most_sheets → at < length chunk → After (s ++ chunk) room out (known None n m)
  reached_many e l =
      subst (λ (u : List ℕ). After u room out (known None n m)) R.joins (too_many R.going chunk at e l)

  module _ {r : ControlFlow Closed OpenSheet} {after : List ℕ} (T : ScannedTo room h chunk at r after) (long : length after ≡ length room) (d : n ≡ most_sheets → ⊥) where
    pub reached_on : {k : OpenSheet} → r ≡ Continue k → After (s ++ chunk) after out (known (Some k) n m)
    reached_on {k} e =
        subst (λ (u : List ℕ). After u after out (known (Some k) n m)) R.joins (from_going (goes_on R.going T long e d))

    pub reached_next : {j i : ℕ} → r ≡ Break (record { length = j; next = i }) → {ys : List ℕ} {k : OpenSheet} {m' : Summary}
        → ys ≡ row_in columns (sheet_row (n + 1) (judgement (take j after))) → NewSheet k
        → ((zs : List Accepted) → m ≡ summary_of zs → m' ≡ summary_of (zs ++ accepted_as (n + 1) (judgement (take j after))))
        → Reached s chunk i after (put_mid (lines_long n) (lines_long n + line_bytes columns - lines_long n) out ys) k (n + 1) m'
    reached_next {j} {i} e y f a =
        let N = next_sheet R.going T long e d y f a in
        record {
          bytes = R.bytes ++ N.0;
          cut = _;
          joins = append_assoc R.bytes N.0 (drop i chunk) ∙ ap (λ (v : List ℕ). R.bytes ++ v) (sym N.1) ∙ R.joins;
          going = N.2;
        }

-- the output behind the lines, after one more
pub behind_more : (out₀ out ys : List ℕ) (n : ℕ) → lines_long n + line_bytes columns ≤ length out → length ys ≡ line_bytes columns
    → drop (lines_long n) out ≡ drop (lines_long n) out₀
    → drop (lines_long (n + 1)) (put_mid (lines_long n) (lines_long n + line_bytes columns - lines_long n) out ys) ≡ drop (lines_long (n + 1)) out₀
behind_more out₀ out ys n h l e =
    let w : lines_long (n + 1) ≡ lines_long n + line_bytes columns = omega arith in
    let m : lines_long n ≤ lines_long n + line_bytes columns = omega arith in
    rw w (behind (put_behind (lines_long n) out refl (line_bytes columns) ys h l) ∙ from_further out out₀ m e)

-- ---- the loop

-- the chunk is taken up to `at`; some bytes that came before are named, for what they leave of the rooms
pub record ChunkSoFar (room₀ out₀ : List ℕ) (h₀ : OpenSheet) (n₀ : ℕ) (m₀ : Summary) (chunk room out : List ℕ) (h : OpenSheet) (n : ℕ) (m : Summary) (at : ℕ) : Type 0 where
  pub begun : Reachable room₀ out₀ (known (Some h₀) n₀ m₀)
  pub some : at ≤ length chunk
  pub more : n₀ ≤ n
  pub behind : drop (lines_long n) out ≡ drop (lines_long n) out₀
  pub reached : (s : List ℕ) → After s room₀ out₀ (known (Some h₀) n₀ m₀) → Reached s chunk at room out h n m

-- the state that a call is lent, where something is held
module _ {room₀ out₀ : List ℕ} {q : Quarter} {h : OpenSheet} (e : q.held ≡ Some h) where
  pub at_first : (chunk : List ℕ) → Reachable room₀ out₀ q → ChunkSoFar room₀ out₀ h q.sheets q.summary chunk room₀ out₀ h q.sheets q.summary 0
  at_first chunk B =
      record {
        begun = subst (λ (o : Option OpenSheet). Reachable room₀ out₀ (known o q.sheets q.summary)) e B;
        some = omega arith;
        more = omega arith;
        behind = refl;
        reached = λ s A. begins chunk A refl;
      }

  pub of_held : {chunk room out : List ℕ} {r : Quarter} → Taken room₀ out₀ (known (Some h) q.sheets q.summary) chunk room out r
      → Taken room₀ out₀ q chunk room out r
  of_held {chunk} {room} {out} {r} T = subst (λ (o : Option OpenSheet). Taken room₀ out₀ (known o q.sheets q.summary) chunk room out r) (sym e) T

module _ {room₀ out₀ : List ℕ} {h₀ : OpenSheet} {n₀ : ℕ} {m₀ : Summary} {chunk room out : List ℕ} {h : OpenSheet} {n : ℕ} {m : Summary} {at : ℕ}
    (T : ChunkSoFar room₀ out₀ h₀ n₀ m₀ chunk room out h n m at) where
  here : Reached T.begun.0 chunk at room out h n m
  here = T.reached T.begun.0 T.begun.1

  pub out_is : length out ≡ longest_output
  out_is = here.going.out_long

  pub held_within : Within (length room) h
  held_within = here.going.within

  pub fits : SummaryFits m
  fits = summary_fits here.going

  pub line_fits : (n ≡ most_sheets → ⊥) → lines_long n + line_bytes columns ≤ length out
  line_fits d = omega (arith, here.going.out_long, not_many here.going, here.going.sheets)

  pub taken_all : length chunk ≤ at → Taken room₀ out₀ (known (Some h₀) n₀ m₀) chunk room out (known (Some h) n m)
  taken_all l = record { after = λ s A. reached_end (T.reached s A) l; more = T.more; behind = T.behind }

  pub taken_many : n ≡ most_sheets → at < length chunk → Taken room₀ out₀ (known (Some h₀) n₀ m₀) chunk room out (known None n m)
  taken_many e l = record { after = λ s A. reached_many (T.reached s A) e l; more = T.more; behind = T.behind }

  module _ {r : ControlFlow Closed OpenSheet} {after : List ℕ} (S : ScannedTo room h chunk at r after) (long : length after ≡ length room) (d : n ≡ most_sheets → ⊥) where
    pub taken_on : {k : OpenSheet} → r ≡ Continue k → Taken room₀ out₀ (known (Some h₀) n₀ m₀) chunk after out (known (Some k) n m)
    taken_on e = record { after = λ s A. reached_on (T.reached s A) S long d e; more = T.more; behind = T.behind }

    pub closed_at : {j i : ℕ} → r ≡ Break (record { length = j; next = i }) → (j ≤ length after) × (at < i) × (i ≤ length chunk)
    closed_at e = closed_within here.going S long e

    pub taken_next : {j i : ℕ} → r ≡ Break (record { length = j; next = i }) → {ys : List ℕ} {k : OpenSheet} {m' : Summary}
        → ys ≡ row_in columns (sheet_row (n + 1) (judgement (take j after))) → NewSheet k
        → ((zs : List Accepted) → m ≡ summary_of zs → m' ≡ summary_of (zs ++ accepted_as (n + 1) (judgement (take j after))))
        → ChunkSoFar room₀ out₀ h₀ n₀ m₀ chunk after (put_mid (lines_long n) (lines_long n + line_bytes columns - lines_long n) out ys) k (n + 1) m' i
    taken_next {j} {i} e {ys} y f a =
        record {
          begun = T.begun;
          some = (closed_at e).2;
          more = omega (arith, T.more);
          behind = behind_more out₀ out ys n (line_fits d) (ap length y ∙ row_long (n + 1) (judgement (take j after))) T.behind;
          reached = λ s A. reached_next (T.reached s A) S long d e y f a;
        }

-- ---- a state that has more than 60 sheets already

pub taken_over : (room out chunk : List ℕ) (q : Quarter) → q.held ≡ None → Taken room out q chunk room out q
taken_over room out chunk q e = record { after = λ s A. still_over chunk A e; more = omega arith; behind = refl }
