-- The definition by places and the reading from left to right are the same. Assumes nothing.
use Rattle.basics.proofs.Common.{◌≡◌, ℕ, zero, suc, ◌<◌, ◌≤◌, Bool, true, false, eqb, ltb, List, [], ◌∷◌, length, get_or, take, drop, sym, refl, ap, ◌∙◌, arith, length-drop, dec_le, first, first_from}
use Rattle.basics.proofs.Common.{pick, if_true, if_false, if_lt, if_ge}
use mathlib.Core.Path.{fun_ext}
use Rattle.quarter_stream.specs.Sheets.{closing_minuses, closing, closing_bytes, starts, line_start, closes_at, Sheets, and_then, sheets_in, sheets_of}
use Rattle.quarter_stream.proofs.ClosingLines.{behind, sheets_from, sheets}

-- a search one place further on
first_shift : (P : ℕ → Bool) (i n : ℕ) → first_from P (suc i) n ≡ suc (first_from (λ k. P (suc k)) i n)
unfolding first_from
first_shift P i zero = refl
first_shift P i (suc n) = go (P (suc i)) (first_shift P (suc i) n)
  where
    go : (t : Bool) → first_from P (suc (suc i)) n ≡ suc (first_from (λ k. P (suc k)) (suc i) n)
        → pick t (suc i) (first_from P (suc (suc i)) n) ≡ suc (pick t i (first_from (λ k. P (suc k)) (suc i) n))
    go true e = if_true _ refl ∙ ap suc (sym (if_true _ refl))
    go false e = if_false _ refl ∙ e ∙ ap suc (sym (if_false _ refl))

-- a closing line at a place of s, where `here` says whether one counts at its beginning
unfoldable at_place : Bool → List ℕ → ℕ → Bool
at_place here s zero = pick here (starts closing s) false
at_place here s (suc k) = pick (eqb (get_or s k 0) 10) (starts closing (drop (suc k) s)) false

at_closes : (s : List ℕ) (k : ℕ) → closes_at s k ≡ at_place true s k
unfolding closes_at line_start at_place
at_closes s zero = refl
at_closes s (suc k) = refl

at_next : (here : Bool) (b : ℕ) (s : List ℕ) (k : ℕ) → at_place here (b ∷ s) (suc k) ≡ at_place (eqb b 10) s k
unfolding at_place
at_next here b s zero = refl
at_next here b s (suc k) = refl

-- the bytes of a closing line are passed over
skipped : (n : ℕ) (here : Bool) (s : List ℕ) → sheets_from n here s ≡ sheets_from 0 here (drop n s)
unfolding sheets_from
skipped zero here s = refl
skipped (suc n) here [] = refl
skipped (suc n) here (b ∷ s) = skipped n here s

-- the sheets of s where its first closing line begins at k
abbrev cut_at : List ℕ → ℕ → Sheets
cut_at s k = pick (ltb k (length s)) (and_then (take k s) (sheets (drop closing_bytes (drop k s)))) (record { closed = []; rest = s })

cut_next : (b : ℕ) (s : List ℕ) (k : ℕ) → cut_at (b ∷ s) (suc k) ≡ behind (b ∷ []) (cut_at s k)
unfolding behind
cut_next b s k =
    elim (dec_le (suc k) (length s)) [
      | yes h ↦
          let h' : suc k < suc (length s) = omega arith in
          if_lt _ h' ∙ sym (ap (behind (b ∷ [])) (if_lt _ h))
      | no h ↦
          let g : length s ≤ k = omega arith in
          let g' : suc (length s) ≤ suc k = omega arith in
          if_ge _ g' ∙ sym (ap (behind (b ∷ [])) (if_ge _ g))
    ]

place_next : (here : Bool) (b : ℕ) (s : List ℕ) → first_from (at_place here (b ∷ s)) 1 (length s) ≡ suc (first_from (at_place (eqb b 10) s) 0 (length s))
place_next here b s =
    first_shift (at_place here (b ∷ s)) 0 (length s)
    ∙ ap (λ (P : ℕ → Bool). suc (first_from P 0 (length s))) (fun_ext (at_next here b s))

by_places : (here : Bool) (s : List ℕ) → sheets_from 0 here s ≡ cut_at s (first_from (at_place here s) 0 (length s))
unfolding sheets_from first_from at_place
by_places here [] = sym (if_false _ refl)
by_places here (b ∷ s) = go (pick here (starts closing (b ∷ s)) false) (by_places (eqb b 10) s)
  where
    go : (t : Bool) → sheets_from 0 (eqb b 10) s ≡ cut_at s (first_from (at_place (eqb b 10) s) 0 (length s))
        → pick t (and_then [] (sheets_from closing_minuses true s)) (behind (b ∷ []) (sheets_from 0 (eqb b 10) s))
        ≡ cut_at (b ∷ s) (pick t 0 (first_from (at_place here (b ∷ s)) 1 (length s)))
    go true ih =
        let h : 0 < suc (length s) = omega arith in
        if_true _ refl ∙ ap (and_then []) (skipped closing_minuses true s) ∙ sym (if_lt _ h) ∙ ap (cut_at (b ∷ s)) (sym (if_true _ refl))
    go false ih =
        if_false _ refl ∙ ap (behind (b ∷ [])) ih ∙ sym (cut_next b s (first_from (at_place (eqb b 10) s) 0 (length s)))
        ∙ ap (cut_at (b ∷ s)) (sym (if_false _ refl ∙ place_next here b s))

in_all : (n : ℕ) (s : List ℕ) → length s ≤ n → sheets_in n s ≡ sheets s
unfolding sheets_in sheets_from
in_all zero [] h = refl
in_all zero (b ∷ s) h = absurd (omega arith)
in_all (suc n) s h =
    let k = first (closes_at s) (length s) in
    let l : length (drop closing_bytes (drop k s)) ≤ n = rw (length-drop closing_bytes (drop k s), length-drop k s) (omega arith) in
    let e : first (closes_at s) (length s) ≡ first (at_place true s) (length s) = ap (λ (P : ℕ → Bool). first P (length s)) (fun_ext (at_closes s)) in
    ap (λ (z : Sheets). pick (ltb k (length s)) (and_then (take k s) z) (record { closed = []; rest = s })) (in_all n (drop closing_bytes (drop k s)) l)
    ∙ ap (cut_at s) e
    ∙ sym (by_places true s)

pub sheets_of_lem : (s : List ℕ) → sheets_of s ≡ sheets s
sheets_of_lem s = in_all (length s) s (omega arith)
