-- The order of a line's rules, shown by lines that break two of them: each is refused by the one that comes first, so no program with the two in
-- the other order meets the contract of `read_line`. Rules 4 and 5 have no such line, since a range is that of a code that is known; nor have
-- rules 9 and 10, so that rule 10 stands beside rule 8. Assumes nothing.
use Rattle.basics.proofs.Common.{◌≡◌, ℕ, Bool, true, false, List, replicate, None, Err, sym, refl, ◌∙◌, arith, pick, if_true, if_false, if_ge, by_test, never}
use Rattle.field.specs.Field.{digits, field, digit_or_space, leading_digits, decimal}
use Rattle.codes.specs.Codes.{row_of, is_code, code_among, code_of}
use Rattle.key_columns.specs.Key.{key}
use Rattle.layout.specs.Columns.{sheet_line_bytes, spaced, layout_of, lettered}
use Rattle.sheet_line.specs.Line.{print_line}
use Rattle.sheet_line.specs.Rules.{row_for, outside, block_outside, class_outside, second_barred, trend_above, scalar_outside, rule5, rule6, rule8, parse_line}
use Rattle.codes.specs.declared.Code.{Code, TheVariants.Rsk, TheVariants.Oth, TheVariants.Vol, TheVariants.Gen}
use Rattle.codes.proofs.Table.{rows_same}
use Rattle.refusal.specs.declared.Rule.{Rule}
use Rattle.refusal.specs.declared.Rule.TheVariants as rule
use Rattle.sheet_line.specs.declared.Entry.{Entry}

-- the tests of two rules hold of an entry, and its line is refused by rule r
abbrev pub Breaks : (Entry → Bool) → (Entry → Bool) → Rule → Entry → Type 0
Breaks one other r e = (one e ≡ true) × (other e ≡ true) × (parse_line (print_line e) ≡ Err r)

-- a line for each two rules, all computed at once
pub record InOrder : Type 0 where
  -- 40 spaces, with no line feed and no code
  pub rules_3_4 : (s : List ℕ) × (layout_of s ≡ None) × (code_of s ≡ None) × (parse_line s ≡ Err rule.BrokenLayout)
  -- class 9 of territory 17
  pub rules_5_6 : (e : Entry) × Breaks block_outside class_outside rule.BlockOutside e
  -- a second amount in class 4 of OTH
  pub rules_6_8 : (e : Entry) × Breaks class_outside second_barred rule.ClassOutside e
  -- LT(7) of a cent, and no IR(7)
  pub rules_8_9 : (e : Entry) × Breaks second_barred trend_above rule.SecondAmount e
  -- g of 0, and a second amount
  pub rules_8_10 : (e : Entry) × Breaks second_barred scalar_outside rule.SecondAmount e

pub in_order : InOrder
unfolding
    pick digits field digit_or_space leading_digits decimal is_code code_among spaced layout_of lettered key outside
    rule5 rule6 rule8 parse_line
in_order =
    record {
      rules_3_4 = (replicate sheet_line_bytes 32, refl, refl, refl);
      rules_5_6 = (record { code = Vol; block = 17; class = 9; first = 0; second = 0 }, (refl, refl, refl));
      rules_6_8 = (record { code = Oth; block = 1; class = 4; first = 0; second = 1 }, (refl, refl, refl));
      rules_8_9 = (record { code = Rsk; block = 1; class = 7; first = 0; second = 1 }, (refl, refl, refl));
      rules_8_10 = (record { code = Gen; block = 0; class = 4; first = 0; second = 1 }, (refl, refl, refl));
    }

-- no row has both a trend and a scalar
no_trend_scalar : (k : Code) (b : ℕ) → pick (row_of k b).trend (row_of k b).scalar 0 ≡ 0
unfolding pick
no_trend_scalar = rows_same (λ r. pick r.trend r.scalar 0) (λ r. 0) refl

-- so no line breaks rules 9 and 10
pub not_both : (e : Entry) → trend_above e ≡ true → scalar_outside e ≡ false
not_both e =
    by_test (λ t. t ≡ true → scalar_outside e ≡ false) (row_for e).trend _ _
    (λ t q.
    let s : (row_for e).scalar ≡ 0 = sym (if_true 0 t) ∙ no_trend_scalar e.code e.block in
    if_false _ (if_ge _ (omega (arith, s))))
    (λ t q. never (cc))
