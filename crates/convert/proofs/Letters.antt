-- Letters of both sorts in one sheet, document 02's #110: 'line 1's letters tell which', and 'Mixed capital and small codes in one sheet fall under
-- rule 4 at the first line that differs from line 1'. The first letter tells as much as all three: where they are a code it is of the sort that the
-- first tells, and where they are none of either sort, both sorts turn line 1 away alike. Assumes nothing.
-- In order: what the letters of a code tell; a line in a sheet of either sort; the lines of a sheet up to one that is refused; the sheet.
use Rattle.basics.proofs.Common.{◌≡◌, ℕ, zero, suc, ◌+◌, ◌-◌, ◌*◌, ◌%◌, ◌<◌, ◌≤◌, List, [], ◌∷◌, ◌++◌, map, length, take, drop, Some, None, Ok, Err, Option, Result, sym, refl, ap, ◌∙◌, arith}
use Rattle.basics.proofs.Common.{length-drop, take-append-drop, length-take-le, drop-drop, take_at, drop_at, dec_le, get_or-append, pick, never}
use Rattle.std.proofs.lemmas.List.{take-take}
use lib.Seq.{take-add}
use Rattle.refusal.specs.Outcome.{rule_number}
use Rattle.refusal.specs.declared.Place.TheVariants.{Line}
use Rattle.refusal.specs.declared.Rule.{Rule}
use Rattle.refusal.specs.declared.Rule.TheVariants as rule
use Rattle.codes.specs.Codes.{codes, is_code, code_among, code_of}
use Rattle.codes.specs.declared.Code.{Code}
use Rattle.codes.proofs.Table.{codes_same}
use Rattle.layout.specs.Columns.{sheet_line_bytes, layout_of}
use Rattle.layout.specs.Whole.{whole_lines, line_at}
use Rattle.layout.specs.declared.Numbers.{Numbers}
use Rattle.layout.proofs.WholeLines.{length_line}
use Rattle.sheet_length.specs.Measured.{longest_sheet, measured, after_length}
use Rattle.sheet_length.proofs.Measures.{whole}
use Rattle.sheet_line.specs.Line.{numbers_of}
use Rattle.sheet_line.specs.Rules.{rule3, parse_line}
use Rattle.sheet_line.specs.declared.Entry.{Entry}
use Rattle.sheet_line.proofs.PrintedLines.{code_letters}
use Rattle.order.specs.Reading.{Reading, Reading.complete, Reading.stopped, line_after, on_line, read_from, print_by}
use Rattle.order.proofs.Lines.{read_more, on_good, by_line, next_line}
use Rattle.text_answer.specs.Lent.{Text, Text.no_text}
use Rattle.scaled_line.specs.Scale.{other, to_capital, to_small, letters_in, scale_of, with_capitals, parse_in}
use Rattle.scaled_line.specs.Amounts.{convertible}
use Rattle.scaled_line.specs.declared.Scale.{Scale, TheVariants.Cents, TheVariants.Thousands}
use Rattle.scaled_line.proofs.SmallLetters.{letters_first, three_in, capitals, capitals_are, long_letters, length_with_capitals, layout_with_capitals}
use Rattle.convert.specs.Call.{reading_in, after_reading, conversion}
use Rattle.convert.proofs.Reading.{reads, inverse}

-- ---- what the letters of a code tell

-- letters of this sort tell it
scale_of_code : (d : Scale) (k : Code) → scale_of (letters_in d k) ≡ d
unfolding scale_of to_capital to_small pick
scale_of_code Cents = codes_same (λ k. scale_of (letters_in Cents k)) (λ k. Cents) refl
scale_of_code Thousands = codes_same (λ k. scale_of (letters_in Thousands k)) (λ k. Thousands) refl

-- what stands first tells the sort, whatever follows
pub scale_first : (s t : List ℕ) → 0 < length s → scale_of (s ++ t) ≡ scale_of s
unfolding scale_of
scale_first s t h = rw (get_or-append s t 0 0 h)

-- bytes whose first three are these
in_front : (w s : List ℕ) → take 3 s ≡ w → s ≡ w ++ drop 3 s
in_front w s q = sym (take-append-drop 3 s) ∙ ap (λ (v : List ℕ). v ++ drop 3 s) q

-- so a code of a sort in front tells that sort
pub scale_of_letters : (d : Scale) (k : Code) (s : List ℕ) → take 3 s ≡ letters_in d k → scale_of s ≡ d
scale_of_letters d k s q =
    let w = letters_in d k in
    ap scale_of (in_front w s q) ∙ scale_first w (drop 3 s) (omega (arith, three_in d k)) ∙ scale_of_code d k

-- ---- a line in a sheet of either sort

-- the code that a sheet of this sort has in columns 1 to 3
abbrev pub code_in : Scale → List ℕ → Option Code
code_in Cents s = code_of s
code_in Thousands s = code_of (with_capitals s)

capitals_first : (s : List ℕ) → length s ≡ sheet_line_bytes → take 3 (with_capitals s) ≡ map to_capital (take 3 s)
unfolding with_capitals
capitals_first s h = take_at (map to_capital (take 3 s)) (drop 3 s) 3 (long_letters s h)

-- it has the letters of that sort
letters_read : (d : Scale) (s : List ℕ) (k : Code) → length s ≡ sheet_line_bytes → code_in d s ≡ Some k → take 3 s ≡ letters_in d k
letters_read Cents s k h q = code_letters s h codes q
letters_read Thousands s k h q =
    capitals_are (take 3 s) _ (capitals k) (sym (capitals_first s h) ∙ code_letters (with_capitals s) (length_with_capitals s h) codes q)

-- letters of the other sort are no code
none_in : (d : Scale) (k : Code) (t : List ℕ) → code_in d (letters_in (other d) k ++ t) ≡ None
unfolding code_among is_code with_capitals to_capital to_small pick
none_in Cents k t = codes_same (λ j. code_in Cents (letters_in Thousands j ++ t)) (λ j. None) refl k
none_in Thousands k t = codes_same (λ j. code_in Thousands (letters_in Cents j ++ t)) (λ j. None) refl k

-- a line without a code of a sort is refused in its sheet by 3 or 4, in either sort alike
uncoded : (d : Scale) (s : List ℕ) → code_in d s ≡ None → parse_in d s ≡ rule3 (layout_of s) None
unfolding parse_line
uncoded Cents s q = rw q
uncoded Thousands s q = rw (layout_with_capitals s, q)

-- a line with letters of the other sort is refused by 4, where its layout is kept
pub other_letters_refused : (d : Scale) (k : Code) (s : List ℕ) (n : Numbers) → take 3 s ≡ letters_in (other d) k → layout_of s ≡ Some n
    → parse_in d s ≡ Err rule.UnknownCode
other_letters_refused d k s n q l =
    uncoded d s (ap (code_in d) (in_front (letters_in (other d) k) s q) ∙ none_in d k (drop 3 s)) ∙ ap (λ (o : Option Numbers). rule3 o None) l

-- ---- the lines of a sheet up to one that is refused

module _ (d : Scale) where
  abbrev R : ℕ → ℕ → List ℕ → List Entry → Reading
  R n j s seen = read_from (parse_in d) (convertible d) n j s seen

  -- where the first i lines, by themselves, are all good, a sheet is read on behind them
  behind : (i n j : ℕ) (s : List ℕ) (seen es : List Entry) → i ≤ n → sheet_line_bytes * i ≤ length s
      → R i j (take (sheet_line_bytes * i) s) seen ≡ complete es → R n j s seen ≡ R (n - i) (j + i) (drop (sheet_line_bytes * i) s) es
  unfolding read_from
  behind zero n j s seen es h l q =
      let e : seen ≡ es = cc in
      let a : n - 0 ≡ n = omega arith in
      let b : j + 0 ≡ j = omega arith in
      rw (e, a, b) refl
  behind (suc i) zero j s seen es h l q = absurd (omega arith)
  behind (suc i) (suc n) j s seen es h l q =
      let m : sheet_line_bytes * suc i ≡ sheet_line_bytes + sheet_line_bytes * i = omega arith in
      let t = take sheet_line_bytes s in
      let u = drop sheet_line_bytes s in
      let v = take (sheet_line_bytes * i) u in
      let c : length t ≡ sheet_line_bytes = length-take-le sheet_line_bytes s (omega arith) in
      let w : take (sheet_line_bytes * suc i) s ≡ t ++ v =
      ap (λ (k : ℕ). take k s) m ∙ take-add sheet_line_bytes (sheet_line_bytes * i) s in
      let x : take sheet_line_bytes (take (sheet_line_bytes * suc i) s) ≡ t = ap (take sheet_line_bytes) w ∙ take_at t v sheet_line_bytes c in
      let y : drop sheet_line_bytes (take (sheet_line_bytes * suc i) s) ≡ v = ap (drop sheet_line_bytes) w ∙ drop_at t v sheet_line_bytes c in
      let L : Result Entry Rule = convertible d (line_after seen (parse_in d t)) in
      by_line j seen (λ g. R i (j + 1) v g)
      (λ o. o ≡ complete es → R (suc n) j s seen ≡ R (suc n - suc i) (j + suc i) (drop (sheet_line_bytes * suc i) s) es) L
      (λ r p z. never (cc))
      (λ e p z.
      let a : j + 1 + i ≡ j + suc i = omega arith in
      let b : n - i ≡ suc n - suc i = omega arith in
      let f : drop (sheet_line_bytes * i) u ≡ drop (sheet_line_bytes * suc i) s = rw m (simp drop-drop) in
      on_good j seen (λ g. R n (j + 1) u g) p
      ∙ behind i n (j + 1) u (e ∷ seen) es (omega arith) (rw length-drop (omega arith)) z
      ∙ (λ k. R (b k) (a k) (f k) es))
      (sym (λ k. on_line (convertible d (line_after seen (parse_in d (x k)))) j seen (λ g. R i (j + 1) (y k) g)) ∙ q)

  -- and a refused one behind them is told
  stops_at : (s : List ℕ) (i : ℕ) (es : List Entry) {r : Rule} → i < whole_lines s → reading_in d (take (sheet_line_bytes * i) s) ≡ complete es
      → parse_in d (line_at s i) ≡ Err r → reading_in d s ≡ stopped es (rule_number r) (i + 1)
  unfolding on_line
  stops_at s i es {r} h q p =
      let l : length (take (sheet_line_bytes * i) s) ≡ sheet_line_bytes * i = length-take-le (sheet_line_bytes * i) s (omega arith) in
      let w : whole_lines (take (sheet_line_bytes * i) s) ≡ i = omega (arith, l) in
      let j : 1 + i ≡ i + 1 = omega arith in
      behind i (whole_lines s) 1 s [] es (omega arith) (omega arith) (sym (ap (λ (n : ℕ). R n 1 (take (sheet_line_bytes * i) s) []) w) ∙ q)
      ∙ ap (λ (n : ℕ). R (whole_lines s - i) n (drop (sheet_line_bytes * i) s) es) j
      ∙ read_more (parse_in d) (convertible d) s (whole_lines s) i es h
      ∙ rw p

  letters_of_line : (t : List ℕ) → length t ≡ sheet_line_bytes → (e : Entry) → parse_in d t ≡ Ok e → take 3 t ≡ letters_in d e.code
  letters_of_line t c e p =
      ap (take 3) ((inverse d).printed t c e p) ∙ letters_first (letters_in d e.code) (three_in d e.code) (numbers_of e)

  -- where all lines are good each has the letters of a code of this sort
  all_in : (n j : ℕ) (s : List ℕ) (seen es : List Entry) → sheet_line_bytes * n ≤ length s → R n j s seen ≡ complete es → (i : ℕ) → i < n
      → (k : Code) × (take 3 (line_at s i) ≡ letters_in d k)
  unfolding read_from
  all_in zero j s seen es h q i l = absurd (omega arith)
  all_in (suc n) j s seen es h q i l =
      let t = take sheet_line_bytes s in
      let u = drop sheet_line_bytes s in
      let c : length t ≡ sheet_line_bytes = length-take-le sheet_line_bytes s (omega arith) in
      by_line j seen (λ g. R n (j + 1) u g) (λ o. o ≡ complete es → (k : Code) × (take 3 (line_at s i) ≡ letters_in d k)) _
      (λ r p z. never (cc))
      (λ e p z. line_in i l
      (e.code, letters_of_line t c e (next_line (reads d) seen t c e p).parsed)
      (λ i m. all_in n (j + 1) u (e ∷ seen) es (rw length-drop (omega arith)) z i m))
      q
    where
      line_in : (i : ℕ) → i < suc n → (k : Code) × (take 3 (take sheet_line_bytes s) ≡ letters_in d k)
          → ((i : ℕ) → i < n → (k : Code) × (take 3 (line_at (drop sheet_line_bytes s) i) ≡ letters_in d k))
          → (k : Code) × (take 3 (line_at s i) ≡ letters_in d k)
      line_in zero m first rest = first
      line_in (suc i) m first rest =
          let f : sheet_line_bytes * suc i ≡ sheet_line_bytes + sheet_line_bytes * i = omega arith in
          let w : line_at (drop sheet_line_bytes s) i ≡ line_at s (suc i) = rw f (simp drop-drop) in
          let x = rest i (omega arith) in
          (x.0, ap (take 3) (sym w) ∙ x.1)

  pub lines_lettered : (s : List ℕ) (es : List Entry) → reading_in d s ≡ complete es → (i : ℕ) → i < whole_lines s
      → (k : Code) × (take 3 (line_at s i) ≡ letters_in d k)
  lines_lettered s es q = all_in (whole_lines s) 1 s [] es (omega arith) q

-- ---- the sheet

-- the number that a line 1 without a code is refused by
abbrev number : Option Numbers → ℕ
number None = 3
number (Some n) = 4

module _ (s : List ℕ) where
  -- 'Mixed capital and small codes in one sheet fall under rule 4 at the first line that differs from line 1': the lines before it are good, and
  -- so have line 1's sort, and it keeps the layout, which rule 3 asks first
  pub mixed : (i : ℕ) (es : List Entry) (k : Code) (n : Numbers) → length s ≤ longest_sheet → length s % sheet_line_bytes ≡ 0 → i < whole_lines s
      → reading_in (scale_of s) (take (sheet_line_bytes * i) s) ≡ complete es → take 3 (line_at s i) ≡ letters_in (other (scale_of s)) k
      → layout_of (line_at s i) ≡ Some n → conversion s ≡ no_text 4 (Line (i + 1))
  unfolding conversion
  mixed i es k n h z l q p m =
      rw (whole s h z, stops_at (scale_of s) s i es l q (other_letters_refused (scale_of s) k (line_at s i) n p m))

  -- the sheet converted as one of this sort
  abbrev pub converted_as : Scale → Text
  converted_as d = after_length (measured s) no_text (after_reading d (reading_in d s))

  -- what all three letters of line 1 tell: a sort that has their code, and either where there is none
  abbrev pub OnlyScale : Scale → Type 0
  OnlyScale d = (e : Scale) (k : Code) → take 3 s ≡ letters_in e k → d ≡ e

  -- the letters of line 1 where they are a code of a sort
  read_first : (d : Scale) (k : Code) → 0 < whole_lines s → code_in d (line_at s 0) ≡ Some k → take 3 s ≡ letters_in d k
  read_first d k h q = sym (take-take 3 sheet_line_bytes s (omega arith)) ∙ letters_read d (line_at s 0) k (length_line s 0 h) q

  no_code : (d : Scale) → 0 < whole_lines s → code_in d (line_at s 0) ≡ None → (l : Option Numbers) → layout_of (line_at s 0) ≡ l
      → reading_in d s ≡ stopped [] (number l) 1
  unfolding read_from
  no_code d h q None m = stops_at d s 0 [] h refl (uncoded d (line_at s 0) q ∙ ap (λ (o : Option Numbers). rule3 o None) m)
  no_code d h q (Some n) m = stops_at d s 0 [] h refl (uncoded d (line_at s 0) q ∙ ap (λ (o : Option Numbers). rule3 o None) m)

  abbrev Same : Scale → Scale → Type 0
  Same d e = after_reading d (reading_in d s) ≡ after_reading e (reading_in e s)

  module _ (d : Scale) (only : OnlyScale d) where
    same : (a b : Option Code) → 0 < whole_lines s → code_in d (line_at s 0) ≡ a → code_in (scale_of s) (line_at s 0) ≡ b → Same d (scale_of s)
    same (Some k) b h p q = let e : scale_of s ≡ d = scale_of_letters d k s (read_first d k h p) in rw e refl
    same None (Some k) h p q = let e : d ≡ scale_of s = only (scale_of s) k (read_first (scale_of s) k h q) in rw e refl
    same None None h p q =
        let l = layout_of (line_at s 0) in
        ap (after_reading d) (no_code d h p l refl) ∙ sym (ap (after_reading (scale_of s)) (no_code (scale_of s) h q l refl))

    -- a sheet without a line is read alike in both sorts
    no_line : whole_lines s ≡ 0 → Same d (scale_of s)
    unfolding read_from print_by
    no_line z = rw z refl

    -- a sheet is converted as one of the sort that all three letters tell
    pub all_three : converted_as d ≡ conversion s
    unfolding conversion
    all_three =
        ap (after_length (measured s) no_text)
        (elim (dec_le 1 (whole_lines s)) [
          | yes h ↦ same (code_in d (line_at s 0)) (code_in (scale_of s) (line_at s 0)) h refl refl
          | no h ↦ no_line (omega (arith, h))
        ])
