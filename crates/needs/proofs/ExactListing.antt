-- A line is listed exactly when its need is unmet, and the listing follows the sheet's order: by induction over the lines, of the listing's bytes cut into
-- lines of 20. That no other line is listed is that a line's bytes tell its code, block and class, which one line has. Assumes nothing.
-- In order: a line's bytes tell its code, block and class; one of a sheet's lines; the listing cut into lines; the listing.
use Rattle.basics.proofs.Common.{◌≡◌, ℕ, ◌+◌, ◌*◌, ◌<◌, ◌≤◌, true, false, ltb, List, [], ◌∷◌, ◌++◌, length, take, drop, Some, None, Option, sym, refl, ap, ◌∙◌, append_assoc, append-nil, arith}
use Rattle.basics.proofs.Common.{length-append, length-drop, take_all, take_at, drop_at, subst⁻¹, dec_lt, take-append-le, Each, pick, if_true, if_false, if_lt, if_ge, by_test, never}
use mathlib.Core.Logic.{inl, inr}
use lib.Seq.{drop-append-le}
use Rattle.codes.specs.Codes.{letters_of, is_code, code_among, code_of}
use Rattle.codes.specs.declared.Code.{Code, TheVariants.Gen}
use Rattle.codes.proofs.Table.{codes_same, three_letters}
use Rattle.key_columns.specs.Key.{key_bytes}
use Rattle.key_columns.proofs.Columns.{key_read}
use Rattle.sheet_line.specs.Rules.{AcceptedLine}
use Rattle.sheet_line.specs.declared.Entry.{Entry}
use Rattle.sheet_line.proofs.PrintedLines.{key_small}
use Rattle.places.specs.Entries.{lookup, first_of, SameKey}
use Rattle.order.specs.Order.{key_for, last_key, Ascending, BelowBase, key_precedes}
use Rattle.order.specs.Reading.{print_by}
use Rattle.places.proofs.Keys.{has_key_lem, no_key, own_key}
use Rattle.order.proofs.Ascent.{below_base}
use Rattle.needs.specs.Needs.{label_for, need_of, unmet}
use Rattle.needs.specs.Listing.{listed_bytes, label_of, listed_line, listed_for, line_for, listing}
use Rattle.needs.specs.Listed.{IsLine, listed_lines, listed_at, ListedExactly}
use Rattle.needs.specs.declared.Label.{Label}
use Rattle.needs.proofs.Labels.{length_label}
use Rattle.needs.proofs.ListedLines.{one_if, is_one, unmet_long}

-- ---- a line's bytes tell its code, block and class

coded : (k : Code) → code_of (letters_of k) ≡ Some k
unfolding code_among is_code pick
coded = codes_same (λ k. code_of (letters_of k)) Some refl

label_determines : (d e : Entry) → AcceptedLine d → AcceptedLine e → label_of (label_for d) ≡ label_of (label_for e) → SameKey d.code d.block d.class e
unfolding label_of
label_determines d e a b q =
    let s = key_small d.code d.block d.class a.key in
    let t = key_small e.code e.block e.class b.key in
    let x = key_read (letters_of d.code) d.block d.class (three_letters d.code) s.0 s.1 in
    let y = key_read (letters_of e.code) e.block e.class (three_letters e.code) t.0 t.1 in
    let l : letters_of d.code ≡ letters_of e.code = cc (x.0, y.0, q) in
    record { code = cc (coded d.code, coded e.code, l); block = cc (x.1, y.1, q); class = cc (x.2, y.2, q) }

front_label : (l : Label) (n : Option Label) → length (listed_for l n) ≡ listed_bytes → take key_bytes (listed_for l n) ≡ label_of l
unfolding listed_line
front_label l None h = absurd (omega arith)
front_label l (Some m) h = simp append_assoc (take_at (label_of l) _ key_bytes (length_label l))

line_determines : (d e : Entry) → AcceptedLine d → AcceptedLine e → length (line_for d) ≡ listed_bytes → line_for d ≡ line_for e → SameKey d.code d.block d.class e
line_determines d e a b h q =
    label_determines d e a b
    (sym (front_label (label_for d) (need_of (label_for d)) h) ∙ ap (take key_bytes) q ∙ front_label (label_for e) (need_of (label_for e)) (sym (ap length q) ∙ h))

-- ---- one of a sheet's lines

line_in_lem : (P : Entry → Type 0) (es : List Entry) → Each P es → (e : Entry) → IsLine es e → P e
line_in_lem P [] a e x = elim x [ ]
line_in_lem P (d ∷ es) a e (inl q) = rw q a.0
line_in_lem P (d ∷ es) a e (inr w) = line_in_lem P es a.1 e w

key_most : (es : List Entry) → Ascending es → (e : Entry) → IsLine es e → key_for e ≤ last_key es
key_most [] p e x = elim x [ ]
key_most (d ∷ es) p e (inl q) = let z : key_for e ≡ key_for d = ap key_for q in omega arith
key_most (d ∷ es) p e (inr w) = omega (arith, key_most es p.1 e w, p.0)

-- it is found by its code, block and class
found : (g : Entry → ℕ) (es : List Entry) → Ascending es → (e : Entry) → IsLine es e → lookup g es e.code e.block e.class ≡ g e
unfolding lookup
found g [] p e x = elim x [ ]
found g (d ∷ es) p e (inl q) = rw q (if_true _ (has_key_lem _ _ _ d (own_key d)))
found g (d ∷ es) p e (inr w) =
    if_false _ (no_key _ _ _ d (λ s. let z : key_for e ≡ key_for d = rw (s.code, s.block, s.class) in omega (arith, z, key_most es p.1 e w, p.0)))
    ∙ found g es p.1 e w

-- ---- the listing cut into lines

-- a line more behind whole lines
module _ (t l : List ℕ) (n : ℕ) (h : length t ≡ listed_bytes * n) where
  cut_before : (i : ℕ) → i < n → listed_at (t ++ l) i ≡ listed_at t i
  cut_before i k =
      let m : listed_bytes ≤ length (drop (listed_bytes * i) t) = rw length-drop (omega arith) in
      rw (drop-append-le (listed_bytes * i) t l (omega arith)) (take-append-le listed_bytes (drop (listed_bytes * i) t) l m)

  cut_last : length l ≡ listed_bytes → listed_at (t ++ l) n ≡ l
  cut_last k = rw (drop_at t l (listed_bytes * n) h) (take_all listed_bytes l (omega arith))

module _ (es : List Entry) where
  line_long : (e : Entry) → unmet es e ≡ true → length (line_for e) ≡ listed_bytes
  line_long e f = unmet_long (lookup first_of es) e.first e.second (label_for e) f

  -- a line of the listing is that of one of the sheet's lines whose need is unmet
  abbrev Stands : List Entry → List ℕ → ℕ → Entry → Type 0
  Stands part t i d = IsLine part d × (unmet es d ≡ true) × (listed_at t i ≡ line_for d)

  -- what the lines of a listing are, for some of the sheet's lines
  record Pieces (part : List Entry) (t : List ℕ) : Type 0 where
    count : ℕ
    long : length t ≡ listed_bytes * count
    entry : ℕ → Entry
    stands : (i : ℕ) → i < count → Stands part t i (entry i)
    rising : (i j : ℕ) → i < j → j < count → key_for (entry i) < key_for (entry j)
    lists : (e : Entry) → IsLine part e → unmet es e ≡ true → (i : ℕ) × (i < count) × (listed_at t i ≡ line_for e)

  none : Pieces [] []
  none =
      record {
        count = 0;
        long = refl;
        entry = λ i. record { code = Gen; block = 0; class = 0; first = 0; second = 0 };
        stands = λ i h. absurd (omega arith);
        rising = λ i j h k. absurd (omega arith);
        lists = λ e w. absurd w;
      }

  module _ (e : Entry) (part : List Entry) (p : Ascending (e ∷ part)) (t : List ℕ) (w : Pieces part t) where
    -- a line that isn't listed
    kept : unmet es e ≡ false → Pieces (e ∷ part) t
    kept f =
        record {
          count = w.count;
          long = w.long;
          entry = w.entry;
          stands = λ i h. let s = w.stands i h in (inr s.0, s.1, s.2);
          rising = w.rising;
          lists = λ d m u. elim m [ inl q ↦ never (cc) | inr n ↦ w.lists d n u ];
        }

    -- one that is
    module _ (f : unmet es e ≡ true) where
      long : length (line_for e) ≡ listed_bytes
      long = line_long e f

      -- the lines before it, and it
      abbrev entries : ℕ → Entry
      entries i = pick (ltb i w.count) (w.entry i) e

      before : (i : ℕ) → i < w.count → entries i ≡ w.entry i
      before i h = if_lt _ h

      at_last : (i : ℕ) → w.count ≤ i → entries i ≡ e
      at_last i h = if_ge _ h

      all_stand : (i : ℕ) → i < w.count + 1 → Stands (e ∷ part) (t ++ line_for e) i (entries i)
      all_stand i h =
          elim (dec_lt i w.count) [
            | yes y ↦
                let s = w.stands i y in
                subst⁻¹ (Stands (e ∷ part) (t ++ line_for e) i) (before i y) (inr s.0, s.1, cut_before t (line_for e) w.count w.long i y ∙ s.2)
            | no y ↦
                let z : i ≡ w.count = omega arith in
                subst⁻¹ (Stands (e ∷ part) (t ++ line_for e) i) (at_last i (omega arith))
                (inl refl, f, ap (listed_at (t ++ line_for e)) z ∙ cut_last t (line_for e) w.count w.long long)
          ]

      all_rising : (i j : ℕ) → i < j → j < w.count + 1 → key_for (entries i) < key_for (entries j)
      all_rising i j h k =
          let a = ap key_for (before i (omega arith)) in
          elim (dec_lt j w.count) [
            | yes y ↦ omega (arith, a, ap key_for (before j y), w.rising i j h y)
            | no y ↦
                omega (arith, a, ap key_for (at_last j (omega arith)), key_most part p.1 (w.entry i) (w.stands i (omega arith)).0, p.0)
          ]

      added : Pieces (e ∷ part) (t ++ line_for e)
      added =
          record {
            count = w.count + 1;
            long = rw (length-append t (line_for e)) (omega (arith, w.long, long));
            entry = entries;
            stands = all_stand;
            rising = all_rising;
            lists = λ d m u.
                elim m [
                  | inl q ↦ (w.count, omega arith, cut_last t (line_for e) w.count w.long long ∙ ap line_for (sym q))
                  | inr n ↦
                      let v = w.lists d n u in
                      (v.0, omega (arith, v.1), cut_before t (line_for e) w.count w.long v.0 v.1 ∙ v.2)
                ];
          }

  abbrev text : List Entry → List ℕ
  text part = print_by (λ e. pick (unmet es e) (line_for e) []) part

  pieces : (part : List Entry) → Ascending part → Pieces part (text part)
  unfolding print_by
  pieces [] p = none
  pieces (e ∷ part) p =
      let w = pieces part p.1 in
      by_test (λ l. Pieces (e ∷ part) (text part ++ l)) (unmet es e) (line_for e) [] (λ t. added e part p (text part) w t)
      (λ t. rw (append-nil (text part)) (kept e part p (text part) w t))

  -- ---- the listing

  module _ (a : Each AcceptedLine es) (p : Ascending es) where
    -- a line of the sheet whose line is listed has the need of the line that is listed
    one_need : (d e : Entry) → IsLine es d → IsLine es e → unmet es d ≡ true → line_for d ≡ line_for e → unmet es e ≡ true
    one_need d e m n u q =
        let s = line_determines d e (line_in_lem AcceptedLine es a d m) (line_in_lem AcceptedLine es a e n) (line_long d u) q in
        let g : Entry → ℕ = λ x. one_if (unmet es x) in
        let x : g d ≡ g e = sym (found g es p d m) ∙ (λ i. lookup g es (s.code i) (s.block i) (s.class i)) ∙ found g es p e n in
        sym (is_one (unmet es e)) ∙ sym (ap (λ (v : ℕ). ltb 0 v) x) ∙ is_one (unmet es d) ∙ u

    small : (e : Entry) → IsLine es e → BelowBase e
    small e m = below_base e (line_in_lem AcceptedLine es a e m).key

    exactly_by : (t : List ℕ) → Pieces es t → ListedExactly es t
    exactly_by t w =
        let c : listed_lines t ≡ w.count = omega (arith, w.long) in
        record {
          whole = omega (arith, w.long);
          exactly = λ e m. (
            λ l. let s = w.stands l.0 (omega (arith, l.1, c)) in one_need (w.entry l.0) e s.0 m s.1 (sym s.2 ∙ l.2),
            λ u. let v = w.lists e m u in (v.0, omega (arith, v.1, c), v.2),
          );
          entry = w.entry;
          is_line = λ i h. w.stands i (omega (arith, h, c));
          in_order = λ i j h k.
              let d = small (w.entry i) (w.stands i (omega (arith, h, k, c))).0 in
              let e = small (w.entry j) (w.stands j (omega (arith, k, c))).0 in
              (key_precedes (w.entry i) (w.entry j) d e).0 (w.rising i j h (omega (arith, k, c)));
        }

    pub listed_exactly : ListedExactly es (listing es)
    unfolding listing
    listed_exactly = exactly_by (text es) (pieces es p)
