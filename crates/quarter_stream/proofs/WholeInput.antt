-- Nothing of the input is lost: its sheets with their closing lines, and the rest, are the input. Assumes nothing.
use Rattle.basics.proofs.Common.{◌≡◌, ℕ, zero, suc, Bool, true, false, eqb, List, [], ◌∷◌, ◌++◌, length, take, drop, sym, refl, ap, ◌∙◌, true≢false, append_assoc, arith, ℕ_discrete, pick, if_true}
use Rattle.basics.proofs.Common.{if_false, if_eq, if_ne}
use Rattle.quarter_stream.specs.Sheets.{closing_minuses, closing, starts, Sheets, and_then, sheets_of}
use Rattle.quarter_stream.proofs.ClosingLines.{joined, behind, sheets_from}
use Rattle.quarter_stream.proofs.Places.{sheets_of_lem}

abbrev with_closings : List (List ℕ) → List ℕ → List ℕ
with_closings [] r = r
with_closings (x ∷ xs) r = x ++ (closing ++ with_closings xs r)

-- the bytes that sheets came from
abbrev pub bytes_of : Sheets → List ℕ
bytes_of s = with_closings s.closed s.rest

starts_is : (w s : List ℕ) → starts w s ≡ true → s ≡ w ++ drop (length w) s
unfolding starts
starts_is [] s q = refl
starts_is (x ∷ w) [] q = absurd (true≢false (sym q))
starts_is (x ∷ w) (b ∷ s) q =
    elim (ℕ_discrete b x) [
      | yes e ↦ rw e (ap (λ (r : List ℕ). x ∷ r) (starts_is w s (sym (if_eq _ e) ∙ q)))
      | no n ↦ absurd (true≢false (sym q ∙ if_ne _ n))
    ]

behind_bytes : (w : List ℕ) (s : Sheets) → bytes_of (behind w s) ≡ w ++ bytes_of s
unfolding behind
behind_bytes w s = go s.closed s.rest
  where
    go : (xs : List (List ℕ)) (r : List ℕ) → bytes_of (joined w xs r) ≡ w ++ with_closings xs r
    go [] r = refl
    go (x ∷ xs) r = append_assoc w x (closing ++ with_closings xs r)

from_bytes : (n : ℕ) (here : Bool) (s : List ℕ) → bytes_of (sheets_from n here s) ≡ drop n s
unfolding sheets_from
from_bytes zero here [] = refl
from_bytes (suc n) here [] = refl
from_bytes zero here (b ∷ s) = go here (pick here (starts closing (b ∷ s)) false) refl (from_bytes closing_minuses true s) (from_bytes 0 (eqb b 10) s)
  where
    both : (t u : Bool) → pick t u false ≡ true → u ≡ true
    both true u q = sym (if_true _ refl) ∙ q
    both false u q = absurd (true≢false (sym q ∙ if_false _ refl))

    go : (here : Bool) (t : Bool) → pick here (starts closing (b ∷ s)) false ≡ t → bytes_of (sheets_from closing_minuses true s) ≡ drop closing_minuses s
        → bytes_of (sheets_from 0 (eqb b 10) s) ≡ s
        → bytes_of (pick t (and_then [] (sheets_from closing_minuses true s)) (behind (b ∷ []) (sheets_from 0 (eqb b 10) s))) ≡ b ∷ s
    go here true e p q = ap bytes_of (if_true _ refl) ∙ ap (λ (r : List ℕ). closing ++ r) p ∙ sym (starts_is closing (b ∷ s) (both here _ e))
    go here false e p q = ap bytes_of (if_false _ refl) ∙ behind_bytes (b ∷ []) (sheets_from 0 (eqb b 10) s) ∙ ap (λ (r : List ℕ). b ∷ r) q
from_bytes (suc n) here (b ∷ s) = from_bytes n here s

pub rejoined : (s : List ℕ) → bytes_of (sheets_of s) ≡ s
rejoined s = ap bytes_of (sheets_of_lem s) ∙ from_bytes 0 true s

-- an input that has a byte has a sheet, closed or not
pub some_sheet : (b : ℕ) (s : List ℕ) → (sheets_of (b ∷ s)).closed ≡ [] → (sheets_of (b ∷ s)).rest ≡ [] → ⊥
some_sheet b s p q =
    let e : b ∷ s ≡ [] = sym (rejoined (b ∷ s)) ∙ (λ i. with_closings (p i) (q i)) in
    let z : suc (length s) ≡ 0 = ap length e in
    omega arith

-- nothing is held where there is nothing
pub held_none : (n : ℕ) (x : List ℕ) → take (suc n) x ≡ [] → x ≡ []
held_none n [] e = refl
held_none n (b ∷ x) e = let z : suc (length (take n x)) ≡ 0 = ap length e in absurd (omega arith)
