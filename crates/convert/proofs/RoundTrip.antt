-- A sheet that is accepted is the bytes of its lines, and what it is converted to is the bytes of those lines in the other sort. They are accepted
-- there and come back as they were, so the converted sheet is accepted and converts back to the first one; and its lines have letters of one sort.
-- Assumes nothing.
-- In order: the sort of a printed sheet; the lines in the other sort; a sheet that is accepted.
use Rattle.basics.proofs.Common.{◌≡◌, ℕ, ◌*◌, ◌%◌, ◌<◌, ◌≤◌, List, [], ◌∷◌, ◌++◌, map, length, sym, refl, ap, ◌∙◌, arith, length-map, Each, never}
use Rattle.codes.specs.declared.Code.{Code}
use Rattle.key_columns.specs.Key.{code_columns}
use Rattle.layout.specs.Columns.{sheet_line_bytes, lettered}
use Rattle.layout.specs.Whole.{whole_lines, line_at}
use Rattle.layout.specs.declared.Numbers.{Numbers}
use Rattle.sheet_length.specs.Measured.{longest_sheet, after_length}
use Rattle.sheet_length.proofs.Measures.{whole, by_length}
use Rattle.sheet_line.specs.Line.{numbers_of}
use Rattle.sheet_line.specs.Rules.{AcceptedLine}
use Rattle.sheet_line.specs.declared.Entry.{Entry}
use Rattle.order.specs.Order.{Ascending}
use Rattle.order.specs.Reading.{Reading, Reading.complete, Reading.stopped, print_by}
use Rattle.order.proofs.Lines.{Passes, accepted_by, passes_by, ascending_by}
use Rattle.order.proofs.PrintedSheets.{printed_by, read_by, length_by}
use Rattle.scaled_line.specs.Scale.{other, letters_in, scale_of, print_in}
use Rattle.scaled_line.specs.Amounts.{convertible, rescaled}
use Rattle.convert.specs.Call.{reading_in, after_reading, conversion}
use Rattle.text_answer.specs.Lent.Text.{no_text, bytes}
use Rattle.scaled_line.specs.Other.{other_line}
use Rattle.scaled_line.specs.declared.Scale.{Scale, TheVariants.Cents, TheVariants.Thousands}
use Rattle.scaled_line.proofs.SmallLetters.{letters_first, three_in}
use Rattle.scaled_line.proofs.ScaledAmounts.{passes_convertible, rescaled_accepted, rescaled_passes, rescaled_back}
use Rattle.convert.proofs.Letters.{scale_first, scale_of_letters, lines_lettered}
use Rattle.convert.proofs.Reading.{reads, inverse}

-- ---- the sort of a printed sheet

first_letter : (d : Scale) (k : Code) (n : Numbers) → scale_of (lettered (letters_in d k) n) ≡ d
first_letter d k n = scale_of_letters d k _ (letters_first (letters_in d k) (three_in d k) n)

scale_printed : (d : Scale) (e : Entry) (es : List Entry) → scale_of (print_by (print_in d) (e ∷ es)) ≡ d
unfolding print_by
scale_printed d e [] = first_letter d e.code (numbers_of e)
scale_printed d e (f ∷ es) =
    let l : length (print_by (print_in d) (f ∷ es)) ≡ sheet_line_bytes * length (f ∷ es) = length_by (reads d) (inverse d) (f ∷ es) in
    scale_first (print_by (print_in d) (f ∷ es)) (print_in d e) (omega arith) ∙ scale_printed d f es

-- ---- the lines in the other sort

module _ (d : Scale) where
  -- what is written of lines is what those lines print as in the other sort
  others : (es : List Entry) → print_by (other_line d) es ≡ print_by (print_in (other d)) (map (rescaled d) es)
  unfolding print_by
  others [] = refl
  others (e ∷ es) = ap (λ (t : List ℕ). t ++ other_line d e) (others es)

  abbrev Lines : List Entry → Type 0
  Lines es = Each AcceptedLine es × Each (Passes (convertible d)) es

  others_accepted : (es : List Entry) → Lines es → Each AcceptedLine (map (rescaled d) es)
  others_accepted [] a = tt
  others_accepted (e ∷ es) a =
      (rescaled_accepted d e (passes_convertible d e a.1.0) a.0.0, others_accepted es (a.0.1, a.1.1))

  others_pass : (es : List Entry) → Lines es → Each (Passes (convertible (other d))) (map (rescaled d) es)
  others_pass [] a = tt
  others_pass (e ∷ es) a = (rescaled_passes d e (passes_convertible d e a.1.0) a.0.0, others_pass es (a.0.1, a.1.1))

  others_ascend : (es : List Entry) → Ascending es → Ascending (map (rescaled d) es)
  others_ascend [] p = tt
  others_ascend (e ∷ []) p = (p.0, tt)
  others_ascend (e ∷ f ∷ es) p = (p.0, others_ascend (f ∷ es) p.1)

  others_back : (es : List Entry) → Lines es → map (rescaled (other d)) (map (rescaled d) es) ≡ es
  others_back [] a = refl
  others_back (e ∷ es) a =
      let x = rescaled_back d e (passes_convertible d e a.1.0) a.0.0 in
      let y = others_back es (a.0.1, a.1.1) in
      λ i. x i ∷ y i

-- ---- a sheet that is accepted

-- the lines of a sheet, and what it is converted to
record Accepted (s t : List ℕ) : Type 0 where
  lines : List Entry
  short : length s ≤ longest_sheet
  multiple : length s % sheet_line_bytes ≡ 0
  read : reading_in (scale_of s) s ≡ complete lines
  text : t ≡ print_by (other_line (scale_of s)) lines

accepted_sheet : (s t : List ℕ) → conversion s ≡ bytes t → Accepted s t
unfolding conversion
accepted_sheet s t =
    by_length s (λ l. after_length l no_text (after_reading (scale_of s) (reading_in (scale_of s) s)) ≡ bytes t → Accepted s t)
    (λ r j m q. never (cc)) (λ h z. go h z (reading_in (scale_of s) s) refl)
  where
    go : length s ≤ longest_sheet → length s % sheet_line_bytes ≡ 0 → (o : Reading) → reading_in (scale_of s) s ≡ o
        → after_reading (scale_of s) o ≡ bytes t → Accepted s t
    go h z (stopped es n i) e q = never (cc)
    go h z (complete es) e q = record { lines = es; short = h; multiple = z; read = e; text = cc }

-- as many bytes in the other sort
pub lines_long : (d : Scale) (s : List ℕ) (es : List Entry) → length s % sheet_line_bytes ≡ 0 → reading_in d s ≡ complete es
    → length s ≡ length (print_by (other_line d) es)
lines_long d s es z r =
    ap length (printed_by (reads d) (inverse d) s es z r) ∙ length_by (reads d) (inverse d) es
    ∙ sym (ap length (others d es) ∙ length_by (reads (other d)) (inverse (other d)) (map (rescaled d) es)
    ∙ ap (λ (n : ℕ). sheet_line_bytes * n) (length-map es (rescaled d)))

-- by its length and its lines
pub converts : (s : List ℕ) (d : Scale) (es : List Entry) → length s ≤ longest_sheet → length s % sheet_line_bytes ≡ 0 → scale_of s ≡ d
    → reading_in d s ≡ complete es → conversion s ≡ bytes (print_by (other_line d) es)
unfolding conversion
converts s d es h z q r = rw (whole s h z, q, r)

other_other : (d : Scale) → other (other d) ≡ d
other_other Cents = refl
other_other Thousands = refl

module _ (s t : List ℕ) (q : conversion s ≡ bytes t) where
  abbrev A : Accepted s t
  A = accepted_sheet s t q

  abbrev d : Scale
  d = scale_of s

  -- the lines in the other sort
  abbrev fs : List Entry
  fs = map (rescaled d) A.lines

  lines_are : Lines d A.lines
  lines_are = (rw A.read at (accepted_by (reads d) s), rw A.read at (passes_by (reads d) s))

  sheet_is : s ≡ print_by (print_in d) A.lines
  sheet_is = printed_by (reads d) (inverse d) s A.lines A.multiple A.read

  converted_is : t ≡ print_by (print_in (other d)) fs
  converted_is = A.text ∙ others d A.lines

  pub short_sheet : length s ≤ longest_sheet
  short_sheet = A.short

  pub same_length : length t ≡ length s
  same_length = ap length A.text ∙ sym (lines_long d s A.lines A.multiple A.read)

  -- the converted sheet, read in the other sort
  read_back : reading_in (other d) t ≡ complete fs
  read_back =
      let e = other d in
      let p : Ascending A.lines = rw A.read at (ascending_by (reads d) s) in
      ap (reading_in e) converted_is
      ∙ read_by (reads e) (inverse e) fs (others_accepted d A.lines lines_are) (others_pass d A.lines lines_are) (others_ascend d A.lines p)

  bytes_back : print_by (other_line (other d)) fs ≡ s
  bytes_back =
      others (other d) fs ∙ (λ i. print_by (print_in (other_other d i)) (others_back d A.lines lines_are i)) ∙ sym sheet_is

  scale_back : (es : List Entry) → A.lines ≡ es → conversion t ≡ bytes s
  unfolding print_by
  scale_back [] e =
      let x : s ≡ [] = sheet_is ∙ ap (print_by (print_in d)) e in
      let y : t ≡ [] = A.text ∙ ap (print_by (other_line d)) e in
      let z : t ≡ s = y ∙ sym x in
      ap conversion z ∙ q ∙ ap bytes z
  scale_back (f ∷ es) e =
      let m = same_length in
      let c : scale_of t ≡ other d =
      ap scale_of (converted_is ∙ ap (λ (l : List Entry). print_by (print_in (other d)) (map (rescaled d) l)) e)
      ∙ scale_printed (other d) (rescaled d f) (map (rescaled d) es) in
      converts t (other d) fs (omega (arith, A.short)) (rw m A.multiple) c read_back ∙ ap bytes bytes_back

  -- for every accepted sheet the converted sheet is accepted and converts back to the first one, byte for byte
  pub back : conversion t ≡ bytes s
  back = scale_back A.lines refl

  -- each line has the letters of line 1's sort
  pub one_sort : (i : ℕ) → i < whole_lines s → (k : Code) × (code_columns (line_at s i) ≡ letters_in d k)
  one_sort = lines_lettered d s A.lines A.read
