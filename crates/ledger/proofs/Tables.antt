-- What is read off the tables that hold a sheet's lines is what the lines say. Assumes nothing.
use Rattle.basics.proofs.Common.{◌≡◌, ℕ, ◌+◌, ◌^◌, ◌<◌, ◌≤◌, List, [], ◌∷◌, length, set, replicate, Ok, Err, Result, sym, refl, ◌∙◌, arith, set_out}
use Rattle.std.proofs.Math.Logic.{∥∥₁_elim}
use Rattle.sizes.specs.Sizes.{blocks}
use Rattle.codes.specs.Codes.{general_classes, scalar_class, Key}
use Rattle.codes.specs.declared.Code.{Code, TheVariants.Vol, TheVariants.Acq, TheVariants.Gen}
use Rattle.sheet_line.specs.Rules.{AcceptedLine}
use Rattle.sheet_line.specs.declared.Entry.{Entry}
use Rattle.refusal.specs.declared.Rule.{Rule}
use Rattle.places.specs.Entries.{lookup, first_of, second_of, exists, has_line}
use Rattle.ledger.specs.Numbers.{block_by, block_of, general_amount}
use Rattle.places.specs.Places.{places, second_places, index_for, table, tabled}
use Rattle.order.specs.Order.{Admits}
use Rattle.places.specs.Marks.{marks_of, has_mark, block_marked}
use Rattle.order.proofs.Admission.{good_admitted}
use Rattle.ledger.proofs.Bounds.{first_most, second_most}
use Rattle.places.proofs.Indexes.{length_table}
use Rattle.places.proofs.Marks.{mark_table, exists_table}
use Rattle.ledger.proofs.Numbers.{first_table, second_table, block_table, general_table}
use Rattle.ledger.specs.Tables.{TablesOf, TablesHold}
use Rattle.ledger.specs.Lines.{Holds, Sound}
use Rattle.ledger.specs.declared.Ledger.{Ledger}

-- tables of zeros hold no line
pub none_held : TablesOf [] (replicate places 0) (replicate second_places 0) (replicate places 0)
unfolding table marks_of
none_held = record { first = refl; second = refl; mark = refl }

-- what holds whichever lines a ledger holds holds of the ledger
pub of_lines : (l : Ledger) {P : Type 0} → IsProp P → ((es : List Entry) → Holds es l → P) → P
of_lines l c f = ∥∥₁_elim l.held c (λ w. f w.0 w.1)

-- ---- a line more

-- an admitted line is the one that was read
pub admitted_sound : {line r : Result Entry Rule} {last : ℕ} {m m' : List ℕ} → Admits line last m r m' → Sound line → {e : Entry} → r ≡ Ok e → AcceptedLine e
admitted_sound {line} {r} {last} A p {e} q =
    let w : line ≡ Ok e = (good_admitted _ last line e (sym A.line ∙ q)).read in
    rw w at p

module _ {es : List Entry} {f s m m' : List ℕ} {line r : Result Entry Rule} {last : ℕ} (H : TablesHold es f s m) (A : Admits line last m r m') where
  pub more_held : {e : Entry} → r ≡ Ok e → AcceptedLine e → {at : ℕ} → at ≡ index_for e → TablesHold (e ∷ es) (set f at e.first) (set s at e.second) m'
  unfolding table marks_of
  more_held {e} q a p =
      let t = H.tables in
      record {
        tables = record { first = rw (p, t.first); second = rw (p, t.second); mark = A.marks ∙ rw (q, t.mark) };
        lines = (a, H.lines);
      }

  -- one without a place for its second amount
  pub more_first : {e : Entry} → r ≡ Ok e → AcceptedLine e → {at : ℕ} → at ≡ index_for e → second_places ≤ at → TablesHold (e ∷ es) (set f at e.first) s m'
  more_first {e} q a {at} p h =
      let l : length s ≤ at = rw (H.tables.second, length_table second_places second_of es) h in
      rw (set_out s at e.second l) at (more_held q a p)

  pub same_held : {n : Rule} → r ≡ Err n → TablesHold es f s m'
  same_held q =
      let t = H.tables in
      record { tables = record { first = t.first; second = t.second; mark = A.marks ∙ rw (q, t.mark) }; lines = H.lines }

-- ---- what is read off the tables

module _ {es : List Entry} {f s m : List ℕ} (H : TablesHold es f s m) where
  pub exists_is : (b : ℕ) → 1 ≤ b → b ≤ blocks → block_marked m b ≡ exists es b
  exists_is b l h = rw H.tables.mark (exists_table es b H.lines (l, h))

  pub numbers_are : (b : ℕ) → 1 ≤ b → b ≤ blocks → block_by (tabled f) (tabled s) b ≡ block_of es b
  numbers_are b l h = rw (H.tables.first, H.tables.second) (block_table es H.lines b (l, h))

  pub amount_is : (k : Code) (b c : ℕ) → Key k b c → (tabled f k b c ≡ lookup first_of es k b c) × (tabled s k b c ≡ lookup second_of es k b c)
  amount_is k b c v = rw (H.tables.first, H.tables.second) (first_table es H.lines k b c v, second_table es H.lines k b c v)

  -- a class of a territory has a place for what is acquired too
  module _ (b c : ℕ) (v : Key Vol b c) where
    acquired_key : Key Acq b c
    acquired_key = record { low = v.low; high = v.high; one = v.one; most = v.most }

    -- the current volume, and the prior one joined with the acquired one
    pub volume_is : (tabled f Vol b c ≡ lookup first_of es Vol b c)
        × (tabled s Vol b c + tabled f Acq b c ≡ lookup second_of es Vol b c + lookup first_of es Acq b c)
    volume_is =
        let own = amount_is Vol b c v in
        let acquired = amount_is Acq b c acquired_key in
        (own.0, λ i. own.1 i + acquired.0 i)

    -- which fits a word
    pub joined_small : tabled s Vol b c + tabled f Acq b c < 2 ^ 64
    joined_small = omega (arith, volume_is.1, second_most es H.lines Vol b c, first_most es H.lines Acq b c)

  pub general_is : (c : ℕ) → (1 ≤ c) × (c ≤ general_classes) → tabled f Gen 0 c ≡ general_amount es c
  general_is c h = rw H.tables.first (general_table es H.lines c h)

  pub mark_is : (k : Code) (b c : ℕ) → Key k b c → has_mark m k b c ≡ has_line es k b c
  mark_is k b c v = rw H.tables.mark (mark_table es H.lines k b c v)

  pub scalar_is : has_mark m Gen 0 scalar_class ≡ has_line es Gen 0 scalar_class
  scalar_is = mark_is Gen 0 scalar_class (record { low = omega arith; high = omega arith; one = omega arith; most = omega arith })
