-- Laws of the table of codes. What is shown of each code in the list holds of every code, and what is shown of the codes' rows holds of every row, so
-- that a code more is a clause more in `each_code` alone. Assumes nothing.
use Rattle.basics.proofs.Common.{◌≡◌, ℕ, zero, suc, ◌≤◌, List, [], ◌∷◌, map, length, get_or, sym, refl, ap, ◌∙◌, subst, arith, Each}
use Rattle.sizes.specs.Sizes.{blocks}
use Rattle.codes.specs.Codes.{codes, letters_of, row_of, rank}
use Rattle.codes.specs.declared.Code.{Code, TheVariants.Rsk, TheVariants.Oth, TheVariants.Mor, TheVariants.Vol, TheVariants.Acq, TheVariants.Gen, TheVariants.Crd}
use Rattle.codes.specs.declared.CodeRow.{CodeRow}

-- ---- every code

pub each_code : (P : Code → Type 0) → Each P codes → (k : Code) → P k
each_code P h Rsk = h.0
each_code P h Oth = h.1.0
each_code P h Mor = h.1.1.0
each_code P h Vol = h.1.1.1.0
each_code P h Acq = h.1.1.1.1.0
each_code P h Gen = h.1.1.1.1.1.0
each_code P h Crd = h.1.1.1.1.1.1.0

same_each : {A B : Type 0} (f g : A → B) (l : List A) → map f l ≡ map g l → Each (λ x. f x ≡ g x) l
same_each f g [] e = tt
same_each f g (x ∷ l) e = (cc, same_each f g l cc)

-- two functions whose values for the codes are one list are equal at every code
pub codes_same : {A : Type 0} (f g : Code → A) → map f codes ≡ map g codes → (k : Code) → f k ≡ g k
codes_same f g e = each_code (λ k. f k ≡ g k) (same_each f g codes e)

-- ---- every row

-- the rows of some codes, for each that of block 0 and that of block 1, which is that of every other block
abbrev rows_of : List Code → List CodeRow
rows_of [] = []
rows_of (k ∷ ks) = row_of k 0 ∷ row_of k 1 ∷ rows_of ks

-- all rows, each at least once
abbrev pub rows : List CodeRow
rows = rows_of codes

later_row : (k : Code) (b : ℕ) → row_of k (suc b) ≡ row_of k 1
later_row k b = ap (λ (f : ℕ → CodeRow). f b) (codes_same (λ k b. row_of k (suc b)) (λ k b. row_of k 1) refl k)

-- what holds of both rows of a code
abbrev Both : (CodeRow → Type 0) → Code → Type 0
Both P k = P (row_of k 0) × P (row_of k 1)

both_rows : (P : CodeRow → Type 0) (ks : List Code) → Each P (rows_of ks) → Each (Both P) ks
both_rows P [] h = tt
both_rows P (k ∷ ks) h = ((h.0, h.1.0), both_rows P ks h.1.1)

pub each_row : (P : CodeRow → Type 0) → Each P rows → (k : Code) (b : ℕ) → P (row_of k b)
each_row P h k zero = (each_code (Both P) (both_rows P codes h) k).0
each_row P h k (suc b) = subst P (sym (later_row k b)) (each_code (Both P) (both_rows P codes h) k).1

-- two functions whose values for the rows are one list are equal at every row
pub rows_same : {A : Type 0} (f g : CodeRow → A) → map f rows ≡ map g rows → (k : Code) (b : ℕ) → f (row_of k b) ≡ g (row_of k b)
rows_same f g e = each_row (λ r. f r ≡ g r) (same_each f g rows e)

-- no row has a block above the last
pub block_most : (k : Code) (b : ℕ) → (row_of k b).highest ≤ blocks
block_most = each_row (λ r. r.highest ≤ blocks) (omega arith)

-- ---- letters and ranks

pub three_letters : (k : Code) → length (letters_of k) ≡ 3
three_letters = codes_same (λ k. length (letters_of k)) (λ k. 3) refl

pub rank_of_row : (k : Code) (b : ℕ) → (row_of k b).rank ≡ rank k
rank_of_row k zero = refl
rank_of_row k (suc b) = ap (λ (r : CodeRow). r.rank) (later_row k b) ∙ codes_same (λ k. (row_of k 1).rank) rank refl k

-- the code of a rank
ranked : ℕ → Code
ranked n = get_or codes n Gen

ranked_rank : (k : Code) → ranked (rank k) ≡ k
unfolding ranked
ranked_rank = codes_same (λ k. ranked (rank k)) (λ k. k) refl

-- a rank is one code's
pub rank_one : (j k : Code) → rank j ≡ rank k → j ≡ k
rank_one j k e = sym (ranked_rank j) ∙ ap ranked e ∙ ranked_rank k
