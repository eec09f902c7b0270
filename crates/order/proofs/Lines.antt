-- The lines of a sheet read one after the other: what holds of every reading, and what the marks and the last key tell after i lines. Assumes
-- nothing.
-- In order: a line more; what holds of the lines that were read: what each new line keeps; a reading is stopped by the number of a rule, at a line of
-- the sheet; a loop over the lines, after i of them.
use Rattle.basics.proofs.Common.{◌≡◌, ℕ, zero, suc, ◌+◌, ◌-◌, ◌*◌, ◌<◌, ◌≤◌, false, List, [], ◌∷◌, length, take, drop, Ok, Err, Result, sym, refl, ap, ◌∙◌, add-one, arith, length-drop}
use Rattle.basics.proofs.Common.{length-take-le, drop-drop, Each, never}
use Rattle.refusal.specs.Outcome.{rule_number, Judging}
use Rattle.layout.specs.Columns.{sheet_line_bytes}
use Rattle.layout.specs.Whole.{whole_lines, line_at}
use Rattle.layout.proofs.WholeLines.{length_line}
use Rattle.sheet_line.specs.Rules.{parse_line, AcceptedLine}
use Rattle.refusal.specs.declared.Rule.{Rule}
use Rattle.sheet_line.specs.declared.Entry.{Entry}
use Rattle.sheet_line.proofs.Acceptance.{line_good}
use Rattle.sheet_line.proofs.Refusals.{line_judging}
use Rattle.places.specs.Entries.{DistinctKeys}
use Rattle.order.specs.Order.{key_for, last_key, Ascending, Keyed, admitted, Admits}
use Rattle.order.specs.Reading.{Reading, Reading.complete, Reading.stopped, stood_in, line_after, on_line, read_from, reading_by, untested, reading, entries_of}
use Rattle.places.specs.Marks.{marks_of, has_mark}
use Rattle.places.proofs.Keys.{New, distinct}
use Rattle.order.proofs.Admission.{good_admitted, refused_admitted}
use Rattle.places.proofs.Marks.{mark_table}

-- ---- a line more

module _ (parse : List ℕ → Result Entry Rule) (test : Result Entry Rule → Result Entry Rule) (s : List ℕ) (n i : ℕ) (seen : List Entry) where
  pub read_more : i < n
      → read_from parse test (n - i) (i + 1) (drop (sheet_line_bytes * i) s) seen
      ≡ on_line (test (line_after seen (parse (line_at s i)))) (i + 1) seen
      (λ t. read_from parse test (n - (i + 1)) (i + 1 + 1) (drop (sheet_line_bytes * (i + 1)) s) t)
  unfolding read_from
  read_more h =
      let e : n - i ≡ suc (n - (i + 1)) = omega arith in
      let d : sheet_line_bytes * (i + 1) ≡ sheet_line_bytes * i + sheet_line_bytes = omega arith in
      rw (e, d) (simp drop-drop)

  pub read_none : n ≤ i → read_from parse test (n - i) (i + 1) (drop (sheet_line_bytes * i) s) seen ≡ complete seen
  unfolding read_from
  read_none h = let e : n - i ≡ 0 = omega arith in rw e

module _ (i : ℕ) (seen : List Entry) (next : List Entry → Reading) where
  on_refused : {L : Result Entry Rule} {r : Rule} → L ≡ Err r → on_line L i seen next ≡ stopped seen (rule_number r) i
  unfolding on_line
  on_refused e = rw e

  pub on_good : {L : Result Entry Rule} {e : Entry} → L ≡ Ok e → on_line L i seen next ≡ next (e ∷ seen)
  unfolding on_line
  on_good q = rw q

  -- what holds of each way on from a line holds of the reading
  pub by_line : (P : Reading → Type 0) (L : Result Entry Rule) → ((r : Rule) → L ≡ Err r → P (stopped seen (rule_number r) i))
      → ((e : Entry) → L ≡ Ok e → P (next (e ∷ seen))) → P (on_line L i seen next)
  unfolding on_line
  by_line P (Err r) refused good = refused r refl
  by_line P (Ok e) refused good = good e refl

-- ---- what holds of the lines that were read: what each new line keeps

-- no line is good that the rules of a line turn away, and the last test lets a line pass as it is
pub record Reads (parse : List ℕ → Result Entry Rule) (test : Result Entry Rule → Result Entry Rule) : Type 0 where
  pub good : (s : List ℕ) → length s ≡ sheet_line_bytes → (e : Entry) → parse s ≡ Ok e → AcceptedLine e
  pub keeps : (l : Result Entry Rule) (e : Entry) → test l ≡ Ok e → l ≡ Ok e

-- an entry that the last test lets pass
abbrev pub Passes : (Result Entry Rule → Result Entry Rule) → Entry → Type 0
Passes test e = test (Ok e) ≡ Ok e

-- a sheet's own lines
pub own : Reads parse_line untested
own = record { good = line_good; keeps = λ l e q. q }

-- a line that was read after others
pub record NextLine (parse : List ℕ → Result Entry Rule) (test : Result Entry Rule → Result Entry Rule) (seen : List Entry) (s : List ℕ) (e : Entry) : Type 0 where
  pub parsed : parse s ≡ Ok e
  pub accepted : AcceptedLine e
  pub passes : Passes test e
  pub new : stood_in seen e ≡ false
  pub after : last_key seen < key_for e

module _ {parse : List ℕ → Result Entry Rule} {test : Result Entry Rule → Result Entry Rule} (R : Reads parse test) where
  pub next_line : (seen : List Entry) (s : List ℕ) → length s ≡ sheet_line_bytes → (e : Entry) → test (line_after seen (parse s)) ≡ Ok e
      → NextLine parse test seen s e
  next_line seen s l e q =
      let k = R.keeps (line_after seen (parse s)) e q in
      let a = good_admitted (stood_in seen) (last_key seen) (parse s) e k in
      record { parsed = a.read; accepted = R.good s l e a.read; passes = sym (ap test k) ∙ q; new = a.new; after = a.after }

  module _ (P : List Entry → Type 0) (more : (e : Entry) (seen : List Entry) (s : List ℕ) → NextLine parse test seen s e → P seen → P (e ∷ seen)) where
    read_from_lem : (n i : ℕ) (s : List ℕ) (seen : List Entry) → sheet_line_bytes * n ≤ length s → P seen → P (entries_of (read_from parse test n i s seen))
    unfolding read_from
    read_from_lem zero i s seen h p = p
    read_from_lem (suc n) i s seen h p =
        let t = take sheet_line_bytes s in
        let l : length t ≡ sheet_line_bytes = length-take-le sheet_line_bytes s (omega arith) in
        by_line i seen _ (λ o. P (entries_of o)) (test (line_after seen (parse t))) (λ r q. p)
        (λ e q. read_from_lem n (i + 1) (drop sheet_line_bytes s) (e ∷ seen) (rw length-drop (omega arith)) (more e seen t (next_line seen t l e q) p))

    read_all : (s : List ℕ) → P [] → P (entries_of (reading_by parse test s))
    read_all s p = read_from_lem (whole_lines s) 1 s [] (omega arith) p

  -- every entry is one that a line can give
  pub accepted_by : (s : List ℕ) → Each AcceptedLine (entries_of (reading_by parse test s))
  accepted_by s = read_all (Each AcceptedLine) (λ e seen t a p. (a.accepted, p)) s tt

  -- and one that the last test lets pass
  pub passes_by : (s : List ℕ) → Each (Passes test) (entries_of (reading_by parse test s))
  passes_by s = read_all (Each (Passes test)) (λ e seen t a p. (a.passes, p)) s tt

  -- no two have the same code, block and class
  pub distinct_by : (s : List ℕ) → DistinctKeys (entries_of (reading_by parse test s))
  distinct_by s = distinct _ (read_all New (λ e seen t a p. (a.new, p)) s tt)

  -- each comes after the one before it
  pub ascending_by : (s : List ℕ) → Ascending (entries_of (reading_by parse test s))
  ascending_by s = read_all Ascending (λ e seen t a p. (a.after, p)) s tt

pub all_read : (s : List ℕ) → Each AcceptedLine (entries_of (reading s))
all_read s = accepted_by own s

pub reading_distinct : (s : List ℕ) → DistinctKeys (entries_of (reading s))
reading_distinct s = distinct_by own s

pub reading_ascending : (s : List ℕ) → Ascending (entries_of (reading s))
reading_ascending s = ascending_by own s

-- ---- a reading is stopped by the number of a rule, at a line of the sheet

module _ (parse : List ℕ → Result Entry Rule) (test : Result Entry Rule → Result Entry Rule)
    (judged : (seen : List Entry) (s : List ℕ) (r : Rule) → test (line_after seen (parse s)) ≡ Err r → Judging (rule_number r))
    (es : List Entry) (r j : ℕ) where
  stopped_from : (n i : ℕ) (s : List ℕ) (seen : List Entry) → read_from parse test n i s seen ≡ stopped es r j → Judging r × (j < i + n)
  unfolding read_from
  stopped_from zero i s seen = λ q. never (cc)
  stopped_from (suc n) i s seen =
      by_line i seen _ (λ o. o ≡ stopped es r j → Judging r × (j < i + suc n)) (test (line_after seen (parse (take sheet_line_bytes s))))
      (λ m p q.
      let e : rule_number m ≡ r = cc in
      let k : i ≡ j = cc in
      (rw e at (judged seen (take sheet_line_bytes s) m p), omega arith))
      (λ e p q. let w = stopped_from n (i + 1) (drop sheet_line_bytes s) (e ∷ seen) q in (w.0, omega (arith, w.1)))

  pub stopped_by : (s : List ℕ) → reading_by parse test s ≡ stopped es r j → Judging r × (j ≤ whole_lines s)
  stopped_by s q = let w = stopped_from (whole_lines s) 1 s [] q in (w.0, omega (arith, w.1))

pub reading_stopped : (s : List ℕ) (es : List Entry) (n i : ℕ) → reading s ≡ stopped es n i → Judging n × (i ≤ whole_lines s)
reading_stopped s es n i q =
    stopped_by parse_line untested (λ seen t r p. refused_admitted _ _ (parse_line t) (line_judging t) r p) es n i s q

-- ---- a loop over the lines, after i of them

-- the marks are those of the i lines seen, last is the key of the last one, and what is left to read gives what all lines give
pub record ReadTo (parse : List ℕ → Result Entry Rule) (test : Result Entry Rule → Result Entry Rule) (s m : List ℕ) (last i : ℕ) (seen : List Entry) : Type 0 where
  pub some : i ≤ whole_lines s
  pub count : length seen ≡ i
  pub all : Each AcceptedLine seen
  pub marks : m ≡ marks_of seen
  pub key : last ≡ last_key seen
  pub rest : read_from parse test (whole_lines s - i) (i + 1) (drop (sheet_line_bytes * i) s) seen ≡ reading_by parse test s

keyed : (l : Result Entry Rule) → ((e : Entry) → l ≡ Ok e → AcceptedLine e) → Keyed l
keyed (Err r) a = tt
keyed (Ok e) a = (a e refl).key

-- the marks of the lines seen say of a line what those lines do
marks_serve : (seen : List Entry) → Each AcceptedLine seen → (m : List ℕ) → m ≡ marks_of seen → (last : ℕ) → last ≡ last_key seen → (l : Result Entry Rule) → Keyed l
    → admitted (λ e. has_mark m e.code e.block e.class) last l ≡ line_after seen l
marks_serve seen all m p last q (Err r) k = refl
marks_serve seen all m p last q (Ok e) k =
    rw (p, q, mark_table seen all e.code e.block e.class k)

module _ {parse : List ℕ → Result Entry Rule} {test : Result Entry Rule → Result Entry Rule} (R : Reads parse test)
    {s m : List ℕ} {last i : ℕ} {seen : List Entry} (B : ReadTo parse test s m last i seen) where
  pub done : whole_lines s ≤ i → reading_by parse test s ≡ complete seen
  done h = sym B.rest ∙ read_none parse test s (whole_lines s) i seen h

  module _ (h : i < whole_lines s) where
    acceptable : (e : Entry) → parse (line_at s i) ≡ Ok e → AcceptedLine e
    acceptable e q = R.good (line_at s i) (length_line s i h) e q

    pub line_keyed : Keyed (parse (line_at s i))
    line_keyed = keyed (parse (line_at s i)) acceptable

    module _ {r : Result Entry Rule} {m' : List ℕ} (A : Admits (parse (line_at s i)) last m r m') where
      -- what is left to read goes on from the line that was admitted, or stops at it
      more : reading_by parse test s
          ≡ on_line (test r) (i + 1) seen (λ t. read_from parse test (whole_lines s - (i + 1)) (i + 1 + 1) (drop (sheet_line_bytes * (i + 1)) s) t)
      more =
          let l : r ≡ line_after seen (parse (line_at s i)) =
          A.line ∙ marks_serve seen B.all m B.marks last B.key (parse (line_at s i)) line_keyed in
          sym B.rest ∙ read_more parse test s (whole_lines s) i seen h ∙ rw (← l)

      pub admitted_good : {e : Entry} → r ≡ Ok e → AcceptedLine e
      admitted_good {e} q = acceptable e (good_admitted _ last (parse (line_at s i)) e (sym A.line ∙ q)).read

      pub turned : {n : Rule} → test r ≡ Err n → reading_by parse test s ≡ stopped seen (rule_number n) (i + 1)
      turned q = more ∙ on_refused _ _ _ q

      -- a line that is not admitted leaves the marks as they were
      pub unmarked : {n : Rule} → r ≡ Err n → m' ≡ marks_of seen
      unmarked q = A.marks ∙ rw q B.marks

      pub again : {e : Entry} → test r ≡ Ok e → {k : ℕ} → k ≡ key_for e → ReadTo parse test s m' k (i + 1) (e ∷ seen)
      unfolding marks_of
      again {e} q c =
          let g = R.keeps r e q in
          record {
            some = omega arith;
            count = rw (B.count, add-one);
            all = (admitted_good g, B.all);
            marks = A.marks ∙ rw (g, B.marks);
            key = c;
            rest = sym (more ∙ on_good _ _ _ q);
          }
