-- Lines in small letters: capitals of small letters are the letters of a code again, so reading such a line and printing an entry undo each other; and
-- such a line is read by its columns as they stand and its letters as capitals. Assumes nothing.
-- In order: three letters in front; the letters of a code; a line; a line read by its columns, and by its letters as capitals.
use Rattle.basics.proofs.Common.{◌≡◌, ℕ, suc, ◌+◌, ◌-◌, ◌<◌, ◌≤◌, List, [], ◌∷◌, ◌++◌, map, length, get_or, take, drop, Ok, sym, refl, ap, ◌∙◌, arith, length-append, length-drop, take-append-drop}
use Rattle.basics.proofs.Common.{length-take-le, take_at, drop_at, dec_le, length-map, Each, pick, if_lt, if_ge, is_values, values}
use Rattle.field.specs.Field.{leading_digits, decimal}
use Rattle.codes.specs.Codes.{letters_of, is_code, code_among, code_of}
use Rattle.codes.specs.declared.Code.{Code}
use Rattle.codes.proofs.Table.{codes_same, each_code, three_letters}
use Rattle.key_columns.specs.Key.{key}
use Rattle.layout.specs.Columns.{sheet_line_bytes, spaced, layout_of, lettered}
use Rattle.layout.specs.declared.Numbers.{Numbers}
use Rattle.sheet_line.specs.Line.{numbers_of, print_line}
use Rattle.sheet_line.specs.Rules.{rule3, parse_line, AcceptedLine}
use Rattle.sheet_line.specs.declared.Entry.{Entry}
use Rattle.sheet_line.proofs.PrintedLines.{parse_print, print_parsed}
use Rattle.scaled_line.specs.Scale.{other, to_capital, to_small, letters_in, capital, with_capitals, parse_in, print_in}
use Rattle.scaled_line.specs.Moved.{other_case}
use Rattle.scaled_line.specs.declared.Scale.{Scale, TheVariants.Cents, TheVariants.Thousands}

-- ---- three letters in front

module _ (w : List ℕ) (h : length w ≡ 3) (n : Numbers) where
  pub letters_first : take 3 (lettered w n) ≡ w
  unfolding lettered key values decimal leading_digits
  letters_first = rw (is_values 0 3 w h) refl

  -- other letters in front of the same numbers
  relettered : (v : List ℕ) → length v ≡ 3 → v ++ drop 3 (lettered w n) ≡ lettered v n
  unfolding lettered key values decimal leading_digits
  relettered v k = rw (is_values 0 3 w h, is_values 0 3 v k) refl

-- ---- the letters of a code

pub three_in : (d : Scale) (k : Code) → length (letters_in d k) ≡ 3
three_in Cents k = three_letters k
three_in Thousands k = length-map (letters_of k) to_small ∙ three_letters k

capitals_back : (k : Code) → map to_capital (map to_small (letters_of k)) ≡ letters_of k
unfolding to_capital to_small pick
capitals_back = codes_same (λ k. map to_capital (map to_small (letters_of k))) letters_of refl

-- a code's letters of one sort in the other
pub letters_turned : (d : Scale) (k : Code) → map other_case (letters_in d k) ≡ letters_in (other d) k
unfolding to_small pick
letters_turned Cents = codes_same (λ k. map other_case (letters_in Cents k)) (letters_in Thousands) refl
letters_turned Thousands = codes_same (λ k. map other_case (letters_in Thousands k)) (letters_in Cents) refl

-- from A to Z
abbrev pub Capital : ℕ → Type 0
Capital c = (65 ≤ c) × (c ≤ 90)

-- a code's letters are capitals
pub capitals : (k : Code) → Each Capital (letters_of k)
capitals = each_code (λ k. Each Capital (letters_of k)) (omega arith)

to_small_is : (c : ℕ) → Capital c → to_small c ≡ c + 32
unfolding to_small
to_small_is c h = if_ge _ h.0 ∙ if_ge _ h.1

-- what becomes a capital is its small letter
to_capital_is : (b c : ℕ) → to_capital b ≡ c → Capital c → b ≡ to_small c
unfolding to_capital
to_capital_is b c q h =
    elim (dec_le 97 b) [
      | no l ↦
          let l' : b < 97 = omega arith in
          let z : c ≡ 0 = sym q ∙ if_lt _ l' in
          absurd (omega arith)
      | yes l ↦ elim (dec_le b 122) [
        | no u ↦
            let u' : 122 < b = omega arith in
            let z : c ≡ 0 = sym q ∙ if_ge _ l ∙ if_lt _ u' in
            absurd (omega arith)
        | yes u ↦
            let z : c ≡ b - 32 = sym q ∙ if_ge _ l ∙ if_ge _ u in
            let y : b ≡ c + 32 = omega arith in
            y ∙ sym (to_small_is c h)
      ]
    ]

-- what become capitals are their small letters
pub capitals_are : (v w : List ℕ) → Each Capital w → map to_capital v ≡ w → v ≡ map to_small w
capitals_are [] [] p q = refl
capitals_are [] (c ∷ w) p q = let z : 0 ≡ suc (length w) = ap length q in absurd (omega arith)
capitals_are (b ∷ v) [] p q = let z : suc (length (map to_capital v)) ≡ 0 = ap length q in absurd (omega arith)
capitals_are (b ∷ v) (c ∷ w) p q =
    let x : b ≡ to_small c = to_capital_is b c (ap (λ (l : List ℕ). get_or l 0 0) q) p.0 in
    let y : v ≡ map to_small w = capitals_are v w p.1 (ap (drop 1) q) in
    λ i. x i ∷ y i

-- ---- a line

module _ (s : List ℕ) (h : length s ≡ sheet_line_bytes) where
  pub long_letters : length (map to_capital (take 3 s)) ≡ 3
  long_letters = length-map (take 3 s) to_capital ∙ length-take-le 3 s (omega arith)

  pub length_with_capitals : length (with_capitals s) ≡ sheet_line_bytes
  unfolding with_capitals
  length_with_capitals = length-append (map to_capital (take 3 s)) (drop 3 s) ∙ rw (long_letters, length-drop 3 s) (omega arith)

  pub small_printed : (e : Entry) → parse_line (with_capitals s) ≡ Ok e → s ≡ print_in Thousands e
  unfolding with_capitals
  small_printed e q =
      let k = e.code in
      let n = numbers_of e in
      let l = letters_of k in
      let v = map to_capital (take 3 s) in
      let p : v ++ drop 3 s ≡ print_line e = print_parsed (with_capitals s) length_with_capitals e q in
      let x : v ≡ l = sym (take_at v (drop 3 s) 3 long_letters) ∙ ap (take 3) p ∙ letters_first l (three_in Cents k) n in
      let y : drop 3 s ≡ drop 3 (print_line e) = sym (drop_at v (drop 3 s) 3 long_letters) ∙ ap (drop 3) p in
      let z : take 3 s ≡ map to_small l = capitals_are (take 3 s) l (capitals k) x in
      sym (take-append-drop 3 s) ∙ (λ i. z i ++ y i) ∙ relettered l (three_in Cents k) n (map to_small l) (three_in Thousands k)

pub small_read : (e : Entry) → AcceptedLine e → parse_line (with_capitals (print_in Thousands e)) ≡ Ok e
unfolding with_capitals
small_read e a =
    let k = e.code in
    let n = numbers_of e in
    let w = map to_small (letters_of k) in
    let f = letters_first w (three_in Thousands k) n in
    let r : map to_capital (take 3 (lettered w n)) ≡ letters_of k = ap (map to_capital) f ∙ capitals_back k in
    ap parse_line (ap (λ (v : List ℕ). v ++ drop 3 (lettered w n)) r ∙ relettered w (three_in Thousands k) n (letters_of k) (three_in Cents k))
    ∙ parse_print e a

-- ---- a line read by its columns, and by its letters as capitals

-- raising the letters leaves the columns behind them
pub layout_with_capitals : (s : List ℕ) → layout_of (with_capitals s) ≡ layout_of s
unfolding layout_of spaced with_capitals
layout_with_capitals [] = refl
layout_with_capitals (a ∷ []) = refl
layout_with_capitals (a ∷ b ∷ []) = refl
layout_with_capitals (a ∷ b ∷ c ∷ s) = refl

code_with_capitals : (s : List ℕ) → code_of (map to_capital (take 3 s)) ≡ code_of (with_capitals s)
unfolding code_among is_code with_capitals
code_with_capitals [] = refl
code_with_capitals (a ∷ []) = refl
code_with_capitals (a ∷ b ∷ []) = refl
code_with_capitals (a ∷ b ∷ c ∷ s) = refl

code_kept : (s : List ℕ) → code_of (map (capital Cents) (take 3 s)) ≡ code_of s
unfolding code_among is_code
code_kept [] = refl
code_kept (a ∷ []) = refl
code_kept (a ∷ b ∷ []) = refl
code_kept (a ∷ b ∷ c ∷ s) = refl

pub read_by : (d : Scale) (s : List ℕ) → rule3 (layout_of s) (code_of (map (capital d) (take 3 s))) ≡ parse_in d s
unfolding parse_line
read_by Cents s = ap (rule3 (layout_of s)) (code_kept s)
read_by Thousands s = λ i. rule3 (sym (layout_with_capitals s) i) (code_with_capitals s i)
