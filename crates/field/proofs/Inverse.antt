-- Reading and writing a field undo each other, over every width; a field's number has no more digits than the field has
-- columns. Assumes nothing.
-- In order: a digit, and what no digit is; a field's number has no more digits than the field has columns; what is written is read back; what is read
-- is written back.
use Rattle.basics.proofs.Common.{◌≡◌, ℕ, zero, suc, ◌+◌, ◌-◌, ◌*◌, ◌/◌, ◌%◌, ◌^◌, ◌<◌, ◌≤◌, List, [], ◌∷◌, ◌++◌, length, Some, Option, sym, refl, ap, ◌∙◌, append-nil, lt_of_lt_of_le, add-zero}
use Rattle.basics.proofs.Common.{zero-add, add-one, arith, ltb-false, eqb-true, ℕ_discrete, one-le-pow, pow-le-pow_right, append_snoc, eqb-false, if_true, if_false, if_eq, if_ne, if_ge, by_test}
use Rattle.basics.proofs.Common.{never}
use Rattle.field.specs.Field.{field, digits, zero_only, digit_or_space, leading_digits, decimal}

-- ---- a digit, and what no digit is

same_value : {F : Option ℕ} {a b : ℕ} → F ≡ Some a → F ≡ Some b → a ≡ b
same_value p q = cc

digit_read : (u b : ℕ) (t : List ℕ) → 48 ≤ b → b ≤ 57 → digits u (b ∷ t) ≡ digits (10 * u + (b - 48)) t
unfolding digits
digit_read u b t l h = if_ge _ l ∙ if_ge _ h

-- where digits spell a number, the first of them is a digit and the rest spell it on
record Spelled (u b : ℕ) (t : List ℕ) (r : ℕ) : Type 0 where
  low : 48 ≤ b
  high : b ≤ 57
  rest : digits (10 * u + (b - 48)) t ≡ Some r

spelled : (u b : ℕ) (t : List ℕ) (r : ℕ) → digits u (b ∷ t) ≡ Some r → Spelled u b t r
unfolding digits
spelled u b t r =
    by_test (λ f. f ≡ Some r → Spelled u b t r) _ _ _ (λ l q. never (cc)) λ l.
    by_test (λ f. f ≡ Some r → Spelled u b t r) _ _ _ (λ h q. never (cc)) λ h q.
    record { low = ltb-false _ _ l; high = ltb-false _ _ h; rest = q }

-- what holds of what a field's first column leads to holds of its number: a space, a leading zero, another byte
by_first : (P : Option ℕ → Type 0) (b : ℕ) (bs : List ℕ) → (b ≡ 32 → P (field bs)) → (b ≡ 48 → P (zero_only bs))
    → ((b ≡ 48 → ⊥) → P (digits 0 (b ∷ bs))) → P (field (b ∷ bs))
unfolding field
by_first P b bs space zeros digit =
    by_test P _ _ _ (λ x. space (eqb-true _ _ x)) λ x. by_test P _ _ _ (λ y. zeros (eqb-true _ _ y)) (λ y. digit (eqb-false _ _ y))

-- ---- a field's number has no more digits than the field has columns

-- one digit more
grows : (v i d : ℕ) → v < 10 ^ i → d ≤ 57 → 10 * v + (d - 48) < 10 ^ (i + 1)
grows v i d h k = rw add-one (omega arith)

digits_bound : (s : List ℕ) (u m r : ℕ) → u < 10 ^ m → digits u s ≡ Some r → r < 10 ^ (m + length s)
unfolding digits
digits_bound [] u m r h q = rw (← same_value refl q, add-zero) h
digits_bound (b ∷ bs) u m r h q =
    let p = spelled u b bs r q in
    let e : m + 1 + length bs ≡ m + suc (length bs) = omega arith in
    rw e at (digits_bound bs (10 * u + (b - 48)) (m + 1) r (grows u m b h p.high) p.rest)

only_zero : (bs : List ℕ) (r : ℕ) → zero_only bs ≡ Some r → r ≡ 0
only_zero [] r q = same_value q refl
only_zero (b ∷ bs) r q = never (cc)

pub field_bound : (s : List ℕ) (r : ℕ) → field s ≡ Some r → r < 10 ^ length s
unfolding field
field_bound [] r = λ q. never (cc)
field_bound (b ∷ bs) r =
    by_first (λ f. f ≡ Some r → r < 10 ^ suc (length bs)) b bs
    (λ x q. lt_of_lt_of_le (field_bound bs r q) (pow-le-pow_right (omega arith) (omega arith)))
    (λ y q. rw (only_zero bs r q) (one-le-pow (suc (length bs)) 10 (omega arith)))
    (λ y q. let z : 0 < 10 ^ 0 = omega arith in rw zero-add at (digits_bound (b ∷ bs) 0 0 r z q))

-- ---- what is written is read back

digit_space : (v : ℕ) → v ≡ 0 → digit_or_space v ≡ 32
unfolding digit_or_space
digit_space v e = if_eq _ e

pub digit_shown : (v : ℕ) → 0 < v → digit_or_space v ≡ 48 + v % 10
unfolding digit_or_space
digit_shown v h = let n : v ≡ 0 → ⊥ = λ e. omega arith in if_ne _ n

spaces_read : (w : ℕ) (t : List ℕ) → field (leading_digits w 0 ++ t) ≡ field t
unfolding field leading_digits
spaces_read zero t = refl
spaces_read (suc w) t = rw (digit_space 0 refl, append_snoc (leading_digits w 0) 32 t) (spaces_read w (32 ∷ t) ∙ if_true _ refl)

first_read : (v : ℕ) (t : List ℕ) → 0 < v → v / 10 ≡ 0 → field ((48 + v % 10) ∷ t) ≡ digits v t
unfolding field
first_read v t h z =
    let x : 48 + v % 10 ≡ 32 → ⊥ = λ e. omega arith in
    let y : 48 + v % 10 ≡ 48 → ⊥ = λ e. omega arith in
    let e : 10 * 0 + (48 + v % 10 - 48) ≡ v = omega arith in
    if_ne _ x ∙ if_ne _ y ∙ digit_read 0 (48 + v % 10) t (omega arith) (omega arith) ∙ ap (λ (n : ℕ). digits n t) e

next_read : (v : ℕ) (t : List ℕ) → digits (v / 10) ((48 + v % 10) ∷ t) ≡ digits v t
next_read v t =
    let e : 10 * (v / 10) + (48 + v % 10 - 48) ≡ v = omega arith in
    digit_read (v / 10) (48 + v % 10) t (omega arith) (omega arith) ∙ ap (λ (n : ℕ). digits n t) e

-- a number's digits are read off the columns that end in them
number_read : (w v : ℕ) (t : List ℕ) → 0 < v → v / 10 < 10 ^ w → field (leading_digits w (v / 10) ++ ((48 + v % 10) ∷ t)) ≡ digits v t
unfolding leading_digits
number_read zero v t h b = first_read v t h (omega arith)
number_read (suc w) v t h b =
    elim (ℕ_discrete (v / 10) 0) [
      | yes z ↦ rw z (spaces_read (suc w) ((48 + v % 10) ∷ t)) ∙ first_read v t h z
      | no z ↦
          let p : 0 < v / 10 = omega arith in
          rw (digit_shown (v / 10) p, append_snoc (leading_digits w (v / 10 / 10)) (48 + v / 10 % 10) ((48 + v % 10) ∷ t))
          (number_read w (v / 10) ((48 + v % 10) ∷ t) p (omega arith)) ∙ next_read v t
    ]

pub read_back : (w v : ℕ) → 0 < w → v < 10 ^ w → field (decimal w v) ≡ Some v
unfolding decimal digits field
read_back zero v h b = absurd (omega arith)
read_back (suc w) v h b =
    elim (ℕ_discrete v 0) [
      | yes z ↦ rw z (spaces_read w (48 ∷ []) ∙ if_false _ refl ∙ if_true _ refl)
      | no z ↦ number_read w v [] (omega arith) (omega arith)
    ]

-- ---- what is read is written back

space_leading : (n v : ℕ) → v < 10 ^ n → leading_digits (suc n) v ≡ 32 ∷ leading_digits n v
unfolding leading_digits
space_leading zero v h = rw (digit_space v (omega arith))
space_leading (suc n) v h = ap (λ (l : List ℕ). l ++ (digit_or_space v ∷ [])) (space_leading n (v / 10) (omega arith))

pub space_decimal : (n v : ℕ) → 0 < n → v < 10 ^ n → decimal (suc n) v ≡ 32 ∷ decimal n v
unfolding decimal
space_decimal zero v p h = absurd (omega arith)
space_decimal (suc n) v p h = ap (λ (l : List ℕ). l ++ ((48 + v % 10) ∷ [])) (space_leading n (v / 10) (omega arith))

pub leading_decimal : (n v : ℕ) → 0 < v → leading_digits n v ≡ decimal n v
unfolding leading_digits decimal
leading_decimal zero v h = refl
leading_decimal (suc n) v h = rw (digit_shown v h)

-- a digit moves from what is left to read to what was written
moved : (m u b : ℕ) (t : List ℕ) → 0 < 10 * u + (b - 48) → 48 ≤ b → b ≤ 57 → leading_digits m u ++ (b ∷ t) ≡ leading_digits (suc m) (10 * u + (b - 48)) ++ t
unfolding leading_digits
moved m u b t p l h =
    let d : (10 * u + (b - 48)) / 10 ≡ u = omega arith in
    let e : 48 + (10 * u + (b - 48)) % 10 ≡ b = omega arith in
    rw (digit_shown (10 * u + (b - 48)) p, d, e) (sym (append_snoc (leading_digits m u) b t))

spelled_written : (s : List ℕ) (m u r : ℕ) → 0 < u → digits u s ≡ Some r → leading_digits m u ++ s ≡ decimal (m + length s) r
unfolding digits
spelled_written [] m u r h q = rw (append-nil, add-zero, ← same_value refl q) (leading_decimal m u h)
spelled_written (b ∷ bs) m u r h q =
    let p = spelled u b bs r q in
    let e : suc m + length bs ≡ m + suc (length bs) = omega arith in
    moved m u b bs (omega arith) p.low p.high ∙ spelled_written bs (suc m) (10 * u + (b - 48)) r (omega arith) p.rest ∙ ap (λ (n : ℕ). decimal n r) e

digits_written : (b : ℕ) (bs : List ℕ) (r : ℕ) → (b ≡ 48 → ⊥) → digits 0 (b ∷ bs) ≡ Some r → b ∷ bs ≡ decimal (suc (length bs)) r
unfolding leading_digits
digits_written b bs r n q =
    let p = spelled 0 b bs r q in
    let e : 1 + length bs ≡ suc (length bs) = omega arith in
    let h : 0 < 10 * 0 + (b - 48) = omega arith in
    moved 0 0 b bs h p.low p.high ∙ spelled_written bs 1 (10 * 0 + (b - 48)) r h p.rest ∙ ap (λ (n : ℕ). decimal n r) e

zero_written : (bs : List ℕ) (r : ℕ) → zero_only bs ≡ Some r → 48 ∷ bs ≡ decimal (suc (length bs)) r
unfolding decimal leading_digits
zero_written [] r q = rw (← same_value refl q)
zero_written (b ∷ bs) r q = never (cc)

some_column : (s : List ℕ) (r : ℕ) → field s ≡ Some r → 0 < length s
unfolding field
some_column [] r q = never (cc)
some_column (b ∷ bs) r q = omega arith

pub written_back : (s : List ℕ) (r : ℕ) → field s ≡ Some r → s ≡ decimal (length s) r
unfolding field
written_back [] r = λ q. never (cc)
written_back (b ∷ bs) r =
    by_first (λ f. f ≡ Some r → b ∷ bs ≡ decimal (suc (length bs)) r) b bs
    (λ x p. rw x (ap (λ (l : List ℕ). 32 ∷ l) (written_back bs r p) ∙ sym (space_decimal (length bs) r (some_column bs r p) (field_bound bs r p))))
    (λ y q. rw y (zero_written bs r q)) (digits_written b bs r)
