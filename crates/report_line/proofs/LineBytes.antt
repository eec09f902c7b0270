-- A stretch of a line's bytes with a line written into it: columns 1–9, a space, the number's columns and the line feed, one after the other.
-- Assumes nothing.
use Rattle.basics.proofs.Common.{◌≡◌, ℕ, ◌+◌, ◌-◌, ◌<◌, List, length, take, drop, set, ap, ◌∙◌, arith, length-drop, length-take-le, put_mid, nothing, part, next, all_written}
use Rattle.field.specs.Field.{decimal}
use Rattle.field.proofs.WrittenColumns.{length_decimal}
use Rattle.key_columns.specs.Key.{key_bytes, key}
use Rattle.key_columns.proofs.Columns.{length_key}
use Rattle.report_line.specs.Line.{before_number, line_bytes, line_in}

-- a line of a stretch has the columns for its number that its length leaves
pub in_columns : (w : ℕ) (l code : List ℕ) (block item number : ℕ) {ys : List ℕ} → length l ≡ line_bytes w
    → ys ≡ line_in (length l - line_bytes 0) code block item number → ys ≡ line_in w code block item number
in_columns w l code block item number h e = let n : length l - line_bytes 0 ≡ w = omega arith in e ∙ ap (λ (k : ℕ). line_in k code block item number) n

pub line_filled : (l code : List ℕ) (block item number : ℕ) (ks ns : List ℕ) → length code ≡ 3 → line_bytes 0 < length l
    → ks ≡ key code block item → ns ≡ decimal (length (take (length l - 1 - before_number) (drop before_number (set (put_mid 0 key_bytes l ks) key_bytes 32)))) number
    → set (put_mid before_number (length l - 1 - before_number) (set (put_mid 0 key_bytes l ks) key_bytes 32) ns) (length l - 1) 10 ≡ line_in (length l - line_bytes 0) code block item number
unfolding line_in
line_filled l code block item number ks ns k h e f =
    let w = length l - 1 - before_number in
    let m : length l - line_bytes 0 ≡ w = omega arith in
    let a : length ks ≡ key_bytes = ap length e ∙ length_key code block item k in
    let W = next (part (nothing l) key_bytes ks (omega arith) a) 32 (omega arith) in
    let t : length (take w (drop before_number (set (put_mid 0 key_bytes l ks) key_bytes 32))) ≡ w = length-take-le w _ (rw length-drop (omega (arith, W.long))) in
    let d : ns ≡ decimal w number = f ∙ ap (λ (n : ℕ). decimal n number) t in
    let n : length ns ≡ w = ap length d ∙ length_decimal w number in
    let X = part W w ns (omega arith) n in
    let p : length l - 1 ≡ before_number + w = omega arith in
    ap (λ (n : ℕ). set (put_mid before_number w (set (put_mid 0 key_bytes l ks) key_bytes 32) ns) n 10) p
    ∙ all_written (next X 10 (omega arith)) (omega arith)
    ∙ rw (e, d, m)
