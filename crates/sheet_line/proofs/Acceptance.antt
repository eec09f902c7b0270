-- What a line that no rule turns away guarantees: of its entry what each rule's test leaves, the rules one after the other, and of its columns that
-- they hold the entry's code and numbers. Assumes nothing.
use Rattle.basics.proofs.Common.{◌≡◌, ℕ, ◌≤◌, true, false, ltb, List, length, Some, None, Ok, Option, Result, sym, refl, ◌∙◌, subst, arith, ltb-false, lt-ltb, eq-eqb, eqb-true, not-false, if_true, if_lt, by_test, never}
use Rattle.std.proofs.lemmas.Bool.{le-leb}
use Rattle.amount.specs.Amount.{limit}
use Rattle.codes.specs.Codes.{Key, code_of}
use Rattle.layout.specs.Columns.{sheet_line_bytes, layout_of}
use Rattle.layout.proofs.Columns.{kept_amounts}
use Rattle.sheet_line.specs.Line.{numbers_of}
use Rattle.sheet_line.specs.Rules.{outside, row_for, block_outside, class_outside, is_single, is_scalar, rule3, rule5, rule6, rule8, rule9, rule10, entry_of, parse_line, AcceptedLine}
use Rattle.codes.specs.declared.Code.{Code}
use Rattle.layout.specs.declared.Numbers.{Numbers}
use Rattle.refusal.specs.declared.Rule.{Rule}
use Rattle.sheet_line.specs.declared.Entry.{Entry}

-- ---- a test that does not hold

inside : (low high n : ℕ) → outside low high n ≡ false → (low ≤ n) × (n ≤ high)
unfolding outside
inside low high n = by_test (λ t. t ≡ false → (low ≤ n) × (n ≤ high)) _ _ _ (λ p q. never (cc)) (λ p q. (ltb-false _ _ p, ltb-false _ _ q))

key_of : (e : Entry) → block_outside e ≡ false → class_outside e ≡ false → Key e.code e.block e.class
key_of e p q =
    let b = inside _ _ _ p in
    let c = inside _ _ _ q in
    record { low = b.0; high = b.1; one = c.0; most = c.1 }

-- of the classes that rule 6 lets pass, those behind the last one with two amounts have one alone
pub single_within : (e : Entry) → class_outside e ≡ false → is_single e ≡ ltb (row_for e).paired e.class
single_within e q =
    let w = inside _ _ _ q in
    by_test (λ t. t ≡ ltb (row_for e).paired e.class) _ _ _
    (λ z. sym (lt-ltb _ _ (omega (arith, eqb-true _ _ z, w.0))))
    (λ z. by_test (λ t. t ≡ ltb (row_for e).paired e.class) _ _ _ (λ s. le-leb _ _ w.1 ∙ sym s) (λ s. sym s))

-- a class that is the scalar of its row, and not 0 as in a row without one, is that of the scalar's line
pub scalar_line : (e : Entry) → 1 ≤ e.class → e.class ≡ (row_for e).scalar → is_scalar e ≡ true
scalar_line e h s = if_lt _ (omega (arith, h, s)) ∙ eq-eqb _ _ s

-- ---- rules 5 to 10

module _ (e : Entry) (a : e.first ≤ limit) (b : e.second ≤ limit) (d : Entry) where
  -- where a line is good, its entry is this one, and one that the rules leave
  abbrev Accepts : Result Entry Rule → Type 0
  Accepts l = l ≡ Ok d → (e ≡ d) × AcceptedLine e

  rules_leave : Accepts (rule5 e)
  unfolding rule5 rule6 rule8 rule9 rule10
  rules_leave =
      by_test Accepts _ _ _ (λ t q. never (cc)) λ r5.
      by_test Accepts _ _ _ (λ t q. never (cc)) λ r6.
      by_test Accepts _ _ _ (λ t q. never (cc)) λ r8.
      by_test Accepts _ _ _ (λ t q. never (cc)) λ r9.
      by_test Accepts _ _ _ (λ t q. never (cc)) λ r10 q. (
        cc,
        record {
          key = key_of e r5 r6;
          amounts = record {
            first_most = a;
            second_most = b;
            single = λ s. eqb-true _ _ (not-false _ (sym (if_true _ (single_within e r6 ∙ lt-ltb _ _ s)) ∙ r8));
            trend = λ s. ltb-false _ _ (sym (if_true _ s) ∙ r9);
            scalar = λ s. inside _ _ _ (sym (if_true _ (scalar_line e (inside _ _ _ r6).0 s)) ∙ r10);
          };
        },
      )

-- ---- rules 3 and 4

-- a good line: its entry is one that the rules leave, and its columns hold the entry's code and numbers
pub record GoodLine (s : List ℕ) (e : Entry) : Type 0 where
  pub accepted : AcceptedLine e
  pub kept : layout_of s ≡ Some (numbers_of e)
  pub coded : code_of s ≡ Some e.code

module _ (s : List ℕ) (h : length s ≡ sheet_line_bytes) where
  -- rules 3 and 4, then the others
  all_leave : (l : Option Numbers) (c : Option Code) (d : Entry) → layout_of s ≡ l → code_of s ≡ c → rule3 l c ≡ Ok d → GoodLine s d
  all_leave (Some n) (Some k) d p c q =
      let m = kept_amounts s h n p in
      let a = rules_leave (entry_of k n) (omega arith) (omega arith) d q in
      subst (GoodLine s) a.0 (record { accepted = a.1; kept = p; coded = c })
  all_leave (Some n) None d p c q = never (cc)
  all_leave None k d p c q = never (cc)

  pub good_line : (e : Entry) → parse_line s ≡ Ok e → GoodLine s e
  unfolding parse_line
  good_line e q = all_leave (layout_of s) (code_of s) e refl refl q

  pub line_good : (e : Entry) → parse_line s ≡ Ok e → AcceptedLine e
  line_good e q = (good_line e q).accepted
