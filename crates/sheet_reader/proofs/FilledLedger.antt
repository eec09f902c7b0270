-- The ledger after i lines holds the amounts of those lines, as the marks tell of them. Assumes nothing.
use Rattle.std.proofs.Common.{◌≡◌, ℕ, ◌+◌, ◌<◌, ◌≤◌, List, ◌∷◌, length, Ok, Err, Result, refl, ◌∙◌, arith}
use Rattle.refusal.specs.declared.Rule.{Rule}
use Rattle.refusal.specs.declared.Place.TheVariants as place
use Rattle.layout.specs.Whole.{whole_lines, line_at}
use Rattle.sheet_line.specs.Rules.{parse_line, AcceptedLine}
use Rattle.sheet_line.specs.declared.Entry.{Entry}
use Rattle.places.specs.Entries.{first_of, second_of}
use Rattle.order.specs.Order.{key_for}
use Rattle.places.specs.Places.{places, second_places, table}
use Rattle.order.specs.Reading.{untested, reading}
use Rattle.order.proofs.Lines as lines
use Rattle.layout.proofs.WholeLines.{length_line}
use Rattle.sheet_line.proofs.Acceptance.{line_good}
use Rattle.order.proofs.Lines.{ReadTo}
use Rattle.ledger.specs.Lines.{Sound, Entered}
use Rattle.ledger.specs.declared.Ledger.{Ledger}
use Rattle.sheet_reader.specs.Filling.{Filled}

sound : (l : Result Entry Rule) → ((e : Entry) → l ≡ Ok e → AcceptedLine e) → Sound l
sound (Err r) a = tt
sound (Ok e) a = a e refl

-- a whole line that is read is an entry that no rule of a line turns away, or a rule
pub line_sound : (s : List ℕ) (i : ℕ) → i < whole_lines s → Sound (parse_line (line_at s i))
line_sound s i h = sound _ (line_good (line_at s i) (length_line s i h))

-- a ledger's tables hold the lines that were read
pub record FilledTo (s : List ℕ) (l : Ledger) (last i : ℕ) : Type 0 where
  pub seen : List Entry
  pub read : ReadTo parse_line untested s l.marks last i seen
  pub first : l.firsts ≡ table places first_of seen
  pub second : l.seconds ≡ table second_places second_of seen

module _ {s : List ℕ} {l : Ledger} {last i : ℕ} (B : FilledTo s l last i) where
  pub done : whole_lines s ≤ i → Filled (reading s) (Ok (whole_lines s)) l
  done h =
      let n : whole_lines s ≡ length B.seen = omega (arith, B.read.count, B.read.some) in
      rw (lines.done lines.own B.read h) (record { answer = rw n; tables = record { first = B.first; second = B.second; mark = B.read.marks } })

  module _ (h : i < whole_lines s) {r : Result Entry Rule} {l' : Ledger} (E : Entered (parse_line (line_at s i)) last l r l') where
    -- a line that was admitted is the one that was read
    pub entry_good : {e : Entry} → r ≡ Ok e → AcceptedLine e
    entry_good q = lines.admitted_good lines.own B.read h E.marks q

    pub turned : {n : Rule} → r ≡ Err n → Filled (reading s) (Err (n, place.Line (i + 1))) l'
    turned q =
        let a = rw q at E.amounts in
        rw (lines.turned lines.own B.read h E.marks q)
        (record {
          answer = refl;
          tables = record { first = a.0 ∙ B.first; second = a.1 ∙ B.second; mark = lines.unmarked lines.own B.read h E.marks q };
        })

    pub again : {e : Entry} → r ≡ Ok e → {k : ℕ} → k ≡ key_for e → FilledTo s l' k (i + 1)
    unfolding table
    again {e} q c =
        let a = rw q at E.amounts in
        record {
          seen = e ∷ B.seen;
          read = lines.again lines.own B.read h E.marks q c;
          first = a.0 ∙ rw B.first;
          second = a.1 ∙ rw B.second;
        }
