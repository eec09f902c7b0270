-- Closing lines: a line without a line feed closes nothing; with one it closes where it is 39 minus signs. Assumes nothing.
-- In order: the sheets from left to right; bytes before a first sheet; a line that has begun; no closing line; the sheets from a line's start on; one
-- induction for all: an input s after whole lines w of a sheet and a line l that has begun.
use Rattle.basics.proofs.Common.{◌≡◌, ℕ, zero, suc, ◌-◌, ◌<◌, ◌≤◌, Bool, true, false, eqb, List, [], ◌∷◌, ◌++◌, replicate, sym, refl, ap, ◌∙◌, append_assoc, arith, ne_eqb, ℕ_discrete, dec_le, pick}
use Rattle.basics.proofs.Common.{if_true, if_false, if_eq, if_ne, if_lt, if_ge}
use Rattle.quarter_stream.specs.Sheets.{closing_minuses, closing, starts, Sheets, and_then}
use Rattle.quarter_stream.specs.Steps.{not_closing, counted}

-- ---- the sheets from left to right

abbrev pub joined : List ℕ → List (List ℕ) → List ℕ → Sheets
joined w [] r = record { closed = []; rest = w ++ r }
joined w (x ∷ xs) r = record { closed = (w ++ x) ∷ xs; rest = r }

-- the sheets with the bytes w before them: they belong to the first one, closed or not
unfoldable pub behind : List ℕ → Sheets → Sheets
behind w s = joined w s.closed s.rest

-- The sheets from a place on. `here` says whether a closing line counts at this place; `left` is how many bytes are left of one that is passed over.
unfoldable pub sheets_from : (left : ℕ) (here : Bool) → List ℕ → Sheets
sheets_from left here [] = record { closed = []; rest = [] }
sheets_from zero here (b ∷ s) =
    pick (pick here (starts closing (b ∷ s)) false)
    (and_then [] (sheets_from closing_minuses true s))
    (behind (b ∷ []) (sheets_from 0 (eqb b 10) s))
sheets_from (suc n) here (b ∷ s) = sheets_from n here s

abbrev pub sheets : List ℕ → Sheets
sheets s = sheets_from 0 true s

-- ---- bytes before a first sheet

pub behind_none : (s : Sheets) → behind [] s ≡ s
unfolding behind
behind_none s = go s.closed s.rest
  where
    go : (xs : List (List ℕ)) (r : List ℕ) → joined [] xs r ≡ record { closed = xs; rest = r }
    go [] r = refl
    go (x ∷ xs) r = refl

pub behind_behind : (v w : List ℕ) (s : Sheets) → behind v (behind w s) ≡ behind (v ++ w) s
unfolding behind
behind_behind v w s = go s.closed s.rest
  where
    go : (xs : List (List ℕ)) (r : List ℕ) → joined v (joined w xs r).closed (joined w xs r).rest ≡ joined (v ++ w) xs r
    go [] r = ap (λ (z : List ℕ). record { closed = []; rest = z }) (sym (append_assoc v w r))
    go (x ∷ xs) r = ap (λ (z : List ℕ). record { closed = z ∷ xs; rest = r }) (sym (append_assoc v w x))

-- ---- a line that has begun

-- no line feed stands in it
abbrev pub NoFeed : List ℕ → Type 0
NoFeed [] = Unit
NoFeed (b ∷ l) = (b ≡ 10 → ⊥) × NoFeed l

pub no_feed_more : (l : List ℕ) (b : ℕ) → NoFeed l → (b ≡ 10 → ⊥) → NoFeed (l ++ (b ∷ []))
no_feed_more [] b f n = (n, tt)
no_feed_more (a ∷ l) b f n = (f.0, no_feed_more l b f.1 n)

-- its minus signs, after m of them
unfoldable pub count_from : ℕ → List ℕ → ℕ
count_from m [] = m
count_from m (b ∷ l) = count_from (counted m b) l

pub count_more : (m : ℕ) (l : List ℕ) (b : ℕ) → count_from m (l ++ (b ∷ [])) ≡ counted (count_from m l) b
unfolding count_from
count_more m [] b = refl
count_more m (a ∷ l) b = count_more (counted m a) l b

count_past : (l : List ℕ) → count_from not_closing l ≡ not_closing
unfolding count_from counted
count_past [] = refl
count_past (b ∷ l) = elim (ℕ_discrete b 45) [
  | yes e ↦ ap (λ (n : ℕ). count_from n l) (if_eq _ e ∙ if_false _ refl) ∙ count_past l
  | no n ↦ ap (λ (n : ℕ). count_from n l) (if_ne _ n) ∙ count_past l
]

-- the minus signs of a closing line
abbrev pub all_minuses : List ℕ
all_minuses = replicate closing_minuses 45

-- 39 of them are a closing line without its line feed
count_all : (m : ℕ) (l : List ℕ) → m ≤ closing_minuses → count_from m l ≡ closing_minuses → l ≡ replicate (closing_minuses - m) 45
unfolding count_from counted
count_all m [] h q = let e : closing_minuses - m ≡ 0 = omega arith in rw e
count_all m (b ∷ l) h q =
    elim (ℕ_discrete b 45) [
      | no n ↦ past (ap (λ (k : ℕ). count_from k l) (if_ne _ n))
      | yes e ↦ elim (dec_le closing_minuses m) [
        | yes k ↦ past (ap (λ (k : ℕ). count_from k l) (if_eq _ e ∙ if_ge _ k))
        | no k ↦
            let k' : m < closing_minuses = omega arith in
            let c : count_from (suc m) l ≡ closing_minuses = sym (ap (λ (k : ℕ). count_from k l) (if_eq _ e ∙ if_lt _ k')) ∙ q in
            let z : closing_minuses - m ≡ suc (closing_minuses - suc m) = omega arith in
            rw (e, z) (ap (λ (r : List ℕ). 45 ∷ r) (count_all (suc m) l k' c))
      ]
    ]
  where
    past : count_from (counted m b) l ≡ count_from not_closing l → b ∷ l ≡ replicate (closing_minuses - m) 45
    past p = let z : ◌≡◌ {A = ℕ} not_closing closing_minuses = sym (count_past l) ∙ sym p ∙ q in absurd (omega arith)

pub closing_count : (l : List ℕ) → count_from 0 l ≡ closing_minuses → l ≡ all_minuses
closing_count l q = count_all 0 l (omega arith) q

pub count_closing : (l : List ℕ) → l ≡ all_minuses → count_from 0 l ≡ closing_minuses
unfolding count_from counted pick
count_closing l e = rw e

-- ---- no closing line

starts_without : (n : ℕ) (l : List ℕ) → NoFeed l → starts (replicate n 45 ++ (10 ∷ [])) l ≡ false
unfolding starts
starts_without zero [] f = refl
starts_without zero (b ∷ l) f = if_ne _ f.0
starts_without (suc n) [] f = refl
starts_without (suc n) (b ∷ l) f =
    elim (ℕ_discrete b 45) [
      | yes e ↦ if_eq _ e ∙ starts_without n l f.1
      | no d ↦ if_ne _ d
    ]

starts_other : (n : ℕ) (l s : List ℕ) → NoFeed l → (l ≡ replicate n 45 → ⊥) → starts (replicate n 45 ++ (10 ∷ [])) (l ++ (10 ∷ s)) ≡ false
unfolding starts
starts_other zero [] s f o = absurd (o refl)
starts_other zero (b ∷ l) s f o = if_ne _ f.0
starts_other (suc n) [] s f o = if_false _ refl
starts_other (suc n) (b ∷ l) s f o =
    elim (ℕ_discrete b 45) [
      | yes e ↦ if_eq _ e ∙ starts_other n l s f.1 (λ q. o (rw (e, q)))
      | no d ↦ if_ne _ d
    ]

-- ---- the sheets from a line's start on

pub line_left : (t : Bool) (l : List ℕ) → NoFeed l → sheets_from 0 t l ≡ record { closed = []; rest = l }
unfolding sheets_from behind
line_left t [] f = refl
line_left t (b ∷ l) f = if_false _ (none t) ∙ ap (behind (b ∷ [])) (line_left (eqb b 10) l f.1)
  where
    none : (t : Bool) → pick t (starts closing (b ∷ l)) false ≡ false
    none true = if_true _ refl ∙ starts_without closing_minuses (b ∷ l) f
    none false = if_false _ refl

passed : (t : Bool) (l s : List ℕ) → NoFeed l → pick t (starts closing (l ++ (10 ∷ s))) false ≡ false
    → sheets_from 0 t (l ++ (10 ∷ s)) ≡ behind (l ++ (10 ∷ [])) (sheets s)
unfolding sheets_from
passed t [] s f c = if_false _ c
passed t (b ∷ l) s f c =
    if_false _ c
    ∙ ap (λ (z : Bool). behind (b ∷ []) (sheets_from 0 z (l ++ (10 ∷ s)))) (ne_eqb _ _ f.0)
    ∙ ap (behind (b ∷ [])) (passed false l s f.1 (if_false _ refl))
    ∙ behind_behind (b ∷ []) (l ++ (10 ∷ [])) (sheets s)

-- a line that is no closing line belongs to its sheet
pub line_passed : (l s : List ℕ) → NoFeed l → (l ≡ all_minuses → ⊥) → sheets (l ++ (10 ∷ s)) ≡ behind (l ++ (10 ∷ [])) (sheets s)
line_passed l s f o = passed true l s f (if_true _ refl ∙ starts_other closing_minuses l s f o)

-- a closing line closes a sheet
pub line_closes : (s : List ℕ) → sheets (all_minuses ++ (10 ∷ s)) ≡ and_then [] (sheets s)
unfolding sheets_from starts pick
line_closes s = refl

-- ---- one induction for all: an input s after whole lines w of a sheet and a line l that has begun

module _ (P : List ℕ → List ℕ → List ℕ → Type 0)
    (ends : (w l : List ℕ) → NoFeed l → P w l [])
    (byte : (w l s : List ℕ) (b : ℕ) → (b ≡ 10 → ⊥) → P w (l ++ (b ∷ [])) s → P w l (b ∷ s))
    (closes : (w s : List ℕ) → P [] [] s → P w all_minuses (10 ∷ s))
    (line : (w l s : List ℕ) → NoFeed l → (l ≡ all_minuses → ⊥) → P (w ++ (l ++ (10 ∷ []))) [] s → P w l (10 ∷ s)) where
  pub by_lines : (s w l : List ℕ) → NoFeed l → P w l s
  by_lines [] w l f = ends w l f
  by_lines (b ∷ s) w l f =
      elim (ℕ_discrete b 10) [
        | no n ↦ byte w l s b n (by_lines s w (l ++ (b ∷ [])) (no_feed_more l b f n))
        | yes e ↦ elim (ℕ_discrete (count_from 0 l) closing_minuses) [
          | yes c ↦ rw (e, closing_count l c) (closes w s (by_lines s [] [] tt))
          | no c ↦ rw e (line w l s f (λ q. c (count_closing l q)) (by_lines s (w ++ (l ++ (10 ∷ []))) [] tt))
        ]
      ]
