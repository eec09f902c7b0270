-- The line of an entry: its length, that an entry which the rules leave is read back from it, and that a good line is the line of its entry.
-- Assumes nothing.
use Rattle.basics.proofs.Common.{◌≡◌, ℕ, ◌<◌, ◌≤◌, Bool, true, false, not, eqb, ◌↔◌, List, [], ◌∷◌, length, get_or, Some, Ok, sym, refl, ap, ◌∙◌, arith, ltb-true, le-ltb, eq-eqb, eqb-true, pick}
use Rattle.basics.proofs.Common.{if_false, by_test, never, both, is_values, values}
use Rattle.field.specs.Field.{leading_digits, decimal}
use Rattle.codes.specs.Codes.{codes, letters_of, Key, is_code, code_among, code_of}
use Rattle.key_columns.specs.Key.{code_columns, key}
use Rattle.layout.specs.Columns.{sheet_line_bytes, lettered}
use Rattle.layout.specs.declared.Numbers.{Numbers}
use Rattle.layout.proofs.Columns.{length_lettered, printed_layout, kept_printed}
use Rattle.sheet_line.specs.Line.{numbers_of, print_line}
use Rattle.sheet_line.specs.Rules.{outside, row_for, is_single, is_scalar, rule5, rule6, rule8, rule9, rule10, parse_line, AcceptedLine}
use Rattle.codes.specs.declared.Code.{Code}
use Rattle.codes.proofs.Table.{codes_same, each_row, three_letters}
use Rattle.sheet_line.specs.declared.Entry.{Entry}
use Rattle.sheet_line.proofs.Acceptance.{single_within, good_line, line_good}

-- ---- what stands in the columns of a printed line

pub length_print : (e : Entry) → length (print_line e) ≡ sheet_line_bytes
length_print e = length_lettered (letters_of e.code) (three_letters e.code) (numbers_of e)

printed_code : (k : Code) (n : Numbers) → code_of (lettered (letters_of k) n) ≡ Some k
unfolding code_among is_code lettered key decimal leading_digits pick
printed_code k n = codes_same (λ k. code_of (lettered (letters_of k) n)) Some refl k

-- ---- the tests of rules 5 to 10 do not hold of an entry that they leave

inside_passes : {low high n : ℕ} → low ≤ n → n ≤ high → outside low high n ≡ false
unfolding outside
inside_passes l h = if_false _ (le-ltb _ _ l) ∙ le-ltb _ _ h

-- a test that is of some lines alone
test_passes : (applies : Bool) {test : Bool} → (applies ≡ true → test ≡ false) → pick applies test false ≡ false
test_passes applies h = by_test (λ t. t ≡ false) applies _ _ h (λ s. refl)

rules_pass : (e : Entry) → AcceptedLine e → rule5 e ≡ Ok e
unfolding rule5 rule6 rule8 rule9 rule10
rules_pass e a =
    let r6 = inside_passes a.key.one a.key.most in
    if_false _ (inside_passes a.key.low a.key.high)
    ∙ if_false _ r6
    ∙ if_false _ (test_passes (is_single e) (λ s. ap not (eq-eqb _ _ (a.amounts.single (ltb-true _ _ (sym (single_within e r6) ∙ s))))))
    ∙ if_false _ (test_passes (row_for e).trend (λ s. le-ltb _ _ (a.amounts.trend s)))
    ∙ if_false _ (test_passes (is_scalar e) (λ s. let g = a.amounts.scalar (eqb-true _ _ (both _ s).1) in inside_passes g.0 g.1))

-- ---- what is printed is read back

pub key_small : (k : Code) (b c : ℕ) → Key k b c → (b < 100) × (c < 100)
key_small k b c v = let most = each_row (λ r. (r.highest < 100) × (r.classes < 100)) (omega arith) k b in (omega arith, omega arith)

pub parse_print : (e : Entry) → AcceptedLine e → parse_line (print_line e) ≡ Ok e
unfolding parse_line
parse_print e a =
    let s = key_small e.code e.block e.class a.key in
    let m = a.amounts in
    rw (
      printed_code e.code (numbers_of e),
      printed_layout (letters_of e.code) (three_letters e.code) (numbers_of e) s.0 s.1 (omega arith) (omega arith),
    )
    (rules_pass e a)

-- ---- what is read is printed

module _ (s : List ℕ) (h : length s ≡ sheet_line_bytes) where
  letters_are : (w : List ℕ) → length w ≡ 3 → is_code w s ≡ true → code_columns s ≡ w
  unfolding is_code values
  letters_are w l q =
      let a = both (eqb (get_or s 0 0) (get_or w 0 0)) q in
      let b = both (eqb (get_or s 1 0) (get_or w 1 0)) a.1 in
      let x : get_or s 0 0 ≡ get_or w 0 0 = eqb-true _ _ a.0 in
      let y : get_or s 1 0 ≡ get_or w 1 0 = eqb-true _ _ b.0 in
      let z : get_or s 2 0 ≡ get_or w 2 0 = eqb-true _ _ b.1 in
      ap code_columns (is_values 0 40 s h) ∙ (λ i. x i ∷ y i ∷ z i ∷ []) ∙ sym (is_values 0 3 w l)

  -- the columns that are read as a code are its letters
  pub code_letters : (ks : List Code) {k : Code} → code_among ks s ≡ Some k → code_columns s ≡ letters_of k
  unfolding code_among
  code_letters [] = λ q. never (cc)
  code_letters (j ∷ ks) {k} =
      by_test (λ c. c ≡ Some k → code_columns s ≡ letters_of k) _ _ _
      (λ t q. let e : j ≡ k = cc in letters_are (letters_of j) (three_letters j) t ∙ ap letters_of e)
      (λ t. code_letters ks)

  pub print_parsed : (e : Entry) → parse_line s ≡ Ok e → s ≡ print_line e
  print_parsed e q =
      let g = good_line s h e q in
      kept_printed s h (numbers_of e) g.kept ∙ ap (λ w. lettered w (numbers_of e)) (code_letters codes g.coded)

  -- a line is read as an entry exactly where it is what the entry prints as and the entry is one that the rules leave
  pub parse_exactly : (e : Entry) → (parse_line s ≡ Ok e) ↔ ((s ≡ print_line e) × AcceptedLine e)
  parse_exactly e = (λ q. (print_parsed e q, line_good s h e q), λ p. ap parse_line p.0 ∙ parse_print e p.1)
