-- A sheet whose lines are all good is the bytes of its lines, and the bytes of lines that each are good and ascend are read as those lines. So two
-- sheets with the same lines are the same bytes, and, as lines ascend, two with the same figures are. Assumes nothing.
-- In order: what is read is printed; what is printed is read; a sheet's own lines, and what follows.
use Rattle.basics.proofs.Common.{◌≡◌, ℕ, zero, suc, ◌+◌, ◌*◌, ◌/◌, ◌%◌, ltb, ◌↔◌, List, [], ◌∷◌, ◌++◌, length, take, drop, Ok, Result, sym, refl, ap, ◌∙◌, append_assoc, append-nil, arith}
use Rattle.basics.proofs.Common.{length-append, length-drop, take-append-drop, length-take-le, take_at, drop_at, Each, if_false, if_lt, never}
use Rattle.layout.specs.Columns.{sheet_line_bytes}
use Rattle.layout.specs.Whole.{whole_lines}
use Rattle.sheet_line.specs.Line.{print_line}
use Rattle.sheet_line.specs.Rules.{parse_line, AcceptedLine}
use Rattle.refusal.specs.declared.Rule.{Rule}
use Rattle.sheet_line.specs.declared.Entry.{Entry}
use Rattle.sheet_line.proofs.PrintedLines.{length_print, parse_print, print_parsed}
use Rattle.places.specs.Entries.{mark_of}
use Rattle.order.specs.Order.{SameFigures, Ascending, rule11, rule19}
use Rattle.order.specs.Reading.{line_after, read_from, reading_by, untested, reading, print_by, print_lines, Reading.complete}
use Rattle.order.proofs.Ascent.{none_above, same_lines}
use Rattle.order.proofs.Lines.{on_good, by_line, Reads, Passes, own, next_line, all_read, reading_ascending}

-- how lines are parsed and how entries are printed undo each other
pub record Inverse (parse : List ℕ → Result Entry Rule) (print : Entry → List ℕ) : Type 0 where
  pub long : (e : Entry) → length (print e) ≡ sheet_line_bytes
  pub printed : (s : List ℕ) → length s ≡ sheet_line_bytes → (e : Entry) → parse s ≡ Ok e → s ≡ print e
  pub parsed : (e : Entry) → AcceptedLine e → parse (print e) ≡ Ok e

module _ {parse : List ℕ → Result Entry Rule} {test : Result Entry Rule → Result Entry Rule} {print : Entry → List ℕ} (R : Reads parse test) (I : Inverse parse print) where
  -- ---- what is read is printed

  module _ (es : List Entry) where
    lines_printed : (n i : ℕ) (s : List ℕ) (seen : List Entry) → length s ≡ sheet_line_bytes * n → read_from parse test n i s seen ≡ complete es
        → print_by print seen ++ s ≡ print_by print es
    unfolding read_from print_by
    lines_printed zero i [] seen h = λ q. let e : seen ≡ es = cc in append-nil (print_by print seen) ∙ ap (print_by print) e
    lines_printed zero i (b ∷ s) seen h = absurd (omega arith)
    lines_printed (suc n) i s seen h =
        let t = take sheet_line_bytes s in
        let u = drop sheet_line_bytes s in
        let l : length t ≡ sheet_line_bytes = length-take-le sheet_line_bytes s (omega arith) in
        by_line i seen _ (λ o. o ≡ complete es → print_by print seen ++ s ≡ print_by print es) (test (line_after seen (parse t)))
        (λ r p q. never (cc))
        (λ e p q.
        let b : t ≡ print e = I.printed t l e (next_line R seen t l e p).parsed in
        ap (λ (v : List ℕ). print_by print seen ++ v) (sym (take-append-drop sheet_line_bytes s) ∙ ap (λ (v : List ℕ). v ++ u) b)
        ∙ sym (append_assoc (print_by print seen) (print e) u)
        ∙ lines_printed n (i + 1) u (e ∷ seen) (rw length-drop (omega arith)) q)

  pub printed_by : (s : List ℕ) (es : List Entry) → length s % sheet_line_bytes ≡ 0 → reading_by parse test s ≡ complete es → s ≡ print_by print es
  unfolding print_by
  printed_by s es h q = lines_printed es (whole_lines s) 1 s [] (omega arith) q

  -- ---- what is printed is read

  module _ (e : Entry) (es : List Entry) (a : AcceptedLine e) (t : Passes test e) (p : Ascending (e ∷ es)) where
    -- a line that comes after the last one did not stand before
    comes_next : test (line_after es (Ok e)) ≡ Ok e
    unfolding rule11 rule19
    comes_next =
        ap test (if_false _ (ap (λ (n : ℕ). ltb 0 n) (none_above mark_of es p.1 _ _ _ p.0)) ∙ if_lt _ p.0) ∙ t

    line_read : (n i : ℕ) (u : List ℕ) → read_from parse test (suc n) i (print e ++ u) es ≡ read_from parse test n (i + 1) u (e ∷ es)
    unfolding read_from
    line_read n i u =
        let l = I.long e in
        rw (take_at (print e) u sheet_line_bytes l, drop_at (print e) u sheet_line_bytes l, I.parsed e a) (on_good i es _ comes_next)

  lines_read : (es : List Entry) → Each AcceptedLine es → Each (Passes test) es → Ascending es → (n i : ℕ) (t : List ℕ)
      → read_from parse test (length es + n) i (print_by print es ++ t) [] ≡ read_from parse test n (i + length es) t es
  unfolding print_by
  lines_read [] a w p n i t = let y : 0 + n ≡ n = omega arith in let z : i + 0 ≡ i = omega arith in rw (y, z)
  lines_read (e ∷ es) a w p n i t =
      let m : suc (length es) + n ≡ length es + suc n = omega arith in
      let k : i + length es + 1 ≡ i + suc (length es) = omega arith in
      (λ j. read_from parse test (m j) i (append_assoc (print_by print es) (print e) t j) [])
      ∙ lines_read es a.1 w.1 p.1 (suc n) i (print e ++ t)
      ∙ line_read e es a.0 w.0 p n (i + length es) t
      ∙ (λ j. read_from parse test n (k j) t (e ∷ es))

  pub length_by : (es : List Entry) → length (print_by print es) ≡ sheet_line_bytes * length es
  unfolding print_by
  length_by [] = refl
  length_by (e ∷ es) = length-append (print_by print es) (print e) ∙ rw (I.long e, length_by es) (omega arith)

  pub read_by : (es : List Entry) → Each AcceptedLine es → Each (Passes test) es → Ascending es → reading_by parse test (print_by print es) ≡ complete es
  unfolding read_from
  read_by es a w p =
      let n : length (print_by print es) / sheet_line_bytes ≡ length es + 0 = omega (arith, length_by es) in
      rw (n, ← append-nil (print_by print es)) (lines_read es a w p 0 1 [])

-- ---- a sheet's own lines, and what follows

pub undone : Inverse parse_line print_line
undone = record { long = length_print; printed = print_parsed; parsed = parse_print }

all_pass : (es : List Entry) → Each (Passes untested) es
all_pass [] = tt
all_pass (e ∷ es) = (refl, all_pass es)

pub sheet_printed : (s : List ℕ) (es : List Entry) → length s % sheet_line_bytes ≡ 0 → reading s ≡ complete es → s ≡ print_lines es
sheet_printed s es h q = printed_by own undone s es h q

-- a sheet of whole lines is read as some entries exactly where it is their bytes, each is one that the rules of a line leave, and they ascend
pub sheet_exactly : (s : List ℕ) (es : List Entry) → length s % sheet_line_bytes ≡ 0
    → (reading s ≡ complete es) ↔ ((s ≡ print_lines es) × Each AcceptedLine es × Ascending es)
sheet_exactly s es h = (
  λ q. (sheet_printed s es h q, rw q at (all_read s), rw q at (reading_ascending s)),
  λ p. ap reading p.0 ∙ read_by own undone es p.1 (all_pass es) p.2,
)

-- two sheets of whole lines that are read as lines with the same figures are the same bytes
pub sheets_alike : (s t : List ℕ) (es fs : List Entry) → length s % sheet_line_bytes ≡ 0 → length t % sheet_line_bytes ≡ 0
    → reading s ≡ complete es → reading t ≡ complete fs → SameFigures es fs → s ≡ t
sheets_alike s t es fs h k p q w =
    let a = (sheet_exactly s es h).0 p in
    let b = (sheet_exactly t fs k).0 q in
    a.0 ∙ ap print_lines (same_lines es fs a.1 b.1 a.2 b.2 w) ∙ sym b.0
