-- The two passes over a sheet's lines, after i of them: the first has tested them, with the marks and the last key; the second has written them.
-- Assumes nothing.
use Rattle.basics.proofs.Common.{◌≡◌, ℕ, ◌+◌, ◌-◌, ◌*◌, ◌%◌, ◌<◌, ◌≤◌, List, [], ◌∷◌, ◌++◌, length, take, drop, Ok, Err, Result, sym, refl, ap, ◌∙◌, subst, arith, length-drop, length-take-le}
use Rattle.basics.proofs.Common.{put_mid, never, Wrote, nothing, part}
use borrow.Rule.Slice.PartMut.{same_len_mid}
use Rattle.refusal.specs.Outcome.{rule_number, Outcome.accepted, Outcome.refused}
use Rattle.refusal.specs.declared.Place.TheVariants as place
use Rattle.codes.specs.Codes.{Key}
use Rattle.layout.specs.Columns.{sheet_line_bytes}
use Rattle.layout.specs.Whole.{whole_lines, line_at}
use Rattle.layout.proofs.WholeLines.{length_line}
use Rattle.sheet_line.specs.declared.Entry.{Entry}
use Rattle.refusal.specs.declared.Rule.{Rule}
use Rattle.order.specs.Order.{Admits, key_for}
use Rattle.order.specs.Reading.{line_after, read_from, outcome_of, print_by, Reading.complete}
use Rattle.order.proofs.Lines as lines
use Rattle.order.proofs.Lines.{ReadTo}
use Rattle.scaled_line.specs.Scale.{other, parse_in}
use Rattle.scaled_line.specs.Amounts.{convertible, rescaled}
use Rattle.scaled_line.specs.Other.{other_line}
use Rattle.scaled_line.specs.Moved.{moved_line}
use Rattle.scaled_line.specs.declared.Scale.{Scale}
use Rattle.scaled_line.proofs.ScaledAmounts.{keeps}
use Rattle.scaled_line.proofs.Lines.{length_in_lem}
use Rattle.scaled_line.proofs.MovedLines.{line_moved}
use Rattle.convert.specs.Call.{reading_in}
use Rattle.convert.specs.Steps.{LinesWritten}
use Rattle.convert.proofs.Reading.{reads}

-- ---- the lines tested

pub record TestedTo (d : Scale) (s m : List ℕ) (last i : ℕ) : Type 0 where
  pub seen : List Entry
  pub read : ReadTo (parse_in d) (convertible d) s m last i seen

module _ {d : Scale} {s m : List ℕ} {last i : ℕ} (B : TestedTo d s m last i) where
  pub test_done : whole_lines s ≤ i → accepted (whole_lines s ∷ []) ≡ outcome_of (reading_in d s)
  test_done h =
      let n : whole_lines s ≡ length B.seen = omega (arith, B.read.count, B.read.some) in
      rw (lines.done (reads d) B.read h, n)

  module _ (h : i < whole_lines s) {r : Result Entry Rule} {m' : List ℕ} (A : Admits (parse_in d (line_at s i)) last m r m')
      {l : Result Entry Rule} (c : l ≡ convertible d r) where
    pub test_turned : {n : Rule} → l ≡ Err n → refused (rule_number n) (place.Line (i + 1)) ≡ outcome_of (reading_in d s)
    test_turned q = rw (lines.turned (reads d) B.read h A (sym c ∙ q))

    pub test_key : {e : Entry} → l ≡ Ok e → Key e.code e.block e.class
    test_key {e} q = (lines.admitted_good (reads d) B.read h A (keeps d r e (sym c ∙ q))).key

    pub test_again : {e : Entry} → l ≡ Ok e → {k : ℕ} → k ≡ key_for e → TestedTo d s m' k (i + 1)
    test_again {e} q k = record { seen = e ∷ B.seen; read = lines.again (reads d) B.read h A (sym c ∙ q) k }

-- ---- the lines written

-- what is left to read gives the lines es, and those seen are written in front of the room
pub record WrittenTo (d : Scale) (s r₀ r : List ℕ) (i : ℕ) (es : List Entry) : Type 0 where
  pub seen : List Entry
  pub rest : read_from (parse_in d) (convertible d) (whole_lines s - i) (i + 1) (drop (sheet_line_bytes * i) s) seen ≡ complete es
  pub wrote : Wrote r₀ (sheet_line_bytes * i) (print_by (other_line d) seen) r

-- whichever lines the sheet has
pub record Writing (d : Scale) (s r₀ r : List ℕ) (i : ℕ) : Type 0 where
  pub some : i ≤ whole_lines s
  pub long : length r ≡ length r₀
  pub lines : (es : List Entry) → reading_in d s ≡ complete es → WrittenTo d s r₀ r i es

pub write_start : (d : Scale) (s r : List ℕ) → Writing d s r r 0
unfolding print_by
write_start d s r =
    let z : whole_lines s - 0 ≡ whole_lines s = omega arith in
    record { some = omega arith; long = refl; lines = λ es q. record { seen = []; rest = rw z q; wrote = nothing r } }

module _ {d : Scale} {s r₀ r : List ℕ} {i : ℕ} (W : Writing d s r₀ r i) where
  module _ (h : i < whole_lines s) (fits : length s ≤ length r₀) (ys : List ℕ) (w : ys ≡ moved_line d (line_at s i)) where
    line_more : (es : List Entry) → WrittenTo d s r₀ r i es → WrittenTo d s r₀ (put_mid (sheet_line_bytes * i) sheet_line_bytes r ys) (i + 1) es
    unfolding print_by
    line_more es T =
        let out = put_mid (sheet_line_bytes * i) sheet_line_bytes r ys in
        let Put : List ℕ → Type 0 = λ x. Wrote r₀ (sheet_line_bytes * i + sheet_line_bytes) (print_by (other_line d) T.seen ++ x) out in
        lines.by_line (i + 1) T.seen _ (λ o. o ≡ complete es → WrittenTo d s r₀ (put_mid (sheet_line_bytes * i) sheet_line_bytes r ys) (i + 1) es)
        (convertible d (line_after T.seen (parse_in d (line_at s i)))) (λ n p q. never (cc))
        (λ e p q.
        let a = lines.next_line (reads d) T.seen (line_at s i) (length_line s i h) e p in
        let y : ys ≡ other_line d e = w ∙ line_moved d (line_at s i) (length_line s i h) e a.parsed a.passes in
        let k : sheet_line_bytes * i + sheet_line_bytes ≡ sheet_line_bytes * (i + 1) = omega arith in
        let p = part T.wrote sheet_line_bytes ys (omega arith) (ap length y ∙ length_in_lem (other d) (rescaled d e)) in
        record { seen = e ∷ T.seen; rest = q; wrote = rw k at (subst Put y p) })
        (sym (lines.read_more (parse_in d) (convertible d) s (whole_lines s) i T.seen h) ∙ T.rest)

    -- a line more, put back where it was lent
    pub write_again : length ys ≡ sheet_line_bytes
        → Writing d s r₀ (put_mid (sheet_line_bytes * i) (sheet_line_bytes * i + sheet_line_bytes - sheet_line_bytes * i) r ys) (i + 1)
    write_again n =
        let k : sheet_line_bytes * i + sheet_line_bytes - sheet_line_bytes * i ≡ sheet_line_bytes = omega arith in
        let rest = drop (sheet_line_bytes * i) r in
        let e : length (take sheet_line_bytes rest) ≡ sheet_line_bytes =
        length-take-le sheet_line_bytes rest (rw (length-drop, W.long) (omega arith)) in
        rw k
        (record {
          some = omega arith;
          long = same_len_mid (sheet_line_bytes * i) sheet_line_bytes r ys (n ∙ sym e) ∙ W.long;
          lines = λ es q. line_more es (W.lines es q);
        })

  pub write_done : whole_lines s ≤ i → length s % sheet_line_bytes ≡ 0 → LinesWritten d s r₀ r
  write_done h z es q =
      let T = W.lines es q in
      let e : T.seen ≡ es = same (sym (lines.read_none (parse_in d) (convertible d) s (whole_lines s) i T.seen h) ∙ T.rest) in
      let k : sheet_line_bytes * i ≡ length s = omega (arith, W.some) in
      T.wrote.text ∙ (λ j. print_by (other_line d) (e j) ++ drop (k j) r₀)
    where
      same : {fs gs : List Entry} → complete fs ≡ complete gs → fs ≡ gs
      same q = cc
