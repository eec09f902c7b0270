-- The order of a sheet's lines, and what admits a line after those before it. Document 02, #105: 'Lines now ascend strictly by code, in the order
-- RSK, OTH, MOR, VOL, GEN, CRD, then by block, then by class. It refuses, as number 19 with its line, a line that doesn't come after the one before
-- it, tested after 11.' ACQ 'stands after VOL in the order of lines' (#106). Assumes nothing.
use Rattle.std.specs.Prelude.{Result, Ok, Err, ◌≡◌, ◌⊎◌, ◌↔◌, Bool, List, [], ◌∷◌, ℕ, ◌+◌, ◌*◌, ◌≤◌, ◌<◌, ltb, set}
use Rattle.std.proofs.Common.{inl, inr, arith}
use Rattle.std.proofs.Math.Decide.{dec_le}
use Rattle.basics.specs.Pick.{pick}
use Rattle.codes.specs.Codes.{rank, Key}
use Rattle.codes.specs.declared.Code.{Code}
use Rattle.refusal.specs.Outcome.{rule_number}
use Rattle.refusal.specs.declared.Rule.{Rule}
use Rattle.refusal.specs.declared.Rule.TheVariants as rule
use Rattle.sheet_line.specs.declared.Entry.{Entry}
use Rattle.places.specs.Entries.{lookup, first_of, second_of, has_line}
use Rattle.places.specs.Places.{index_for}
use Rattle.places.specs.Marks.{has_mark}

-- a power of two above every block and class, which have two columns each
abbrev pub order_base : ℕ
order_base = 128

-- the place of a code, block and class in the order of lines: by code, then by block, then by class
unfoldable pub key_of : Code → ℕ → ℕ → ℕ
key_of k b c = (rank k * order_base + b) * order_base + c

-- the key of an entry
abbrev pub key_for : Entry → ℕ
key_for e = key_of e.code e.block e.class

-- no key is 0, as classes count from 1
pub key_above_0 : (e : Entry) → 1 ≤ e.class → 0 < key_for e
unfolding key_of
key_above_0 e h = omega arith

-- the key of the last of some lines, which stands first in the list; where there is no line, 0: every key comes after it
abbrev pub last_key : List Entry → ℕ
last_key [] = 0
last_key (e ∷ es) = key_for e

-- what rule 19 leaves: each line comes after the one before it, the last one first
abbrev pub Ascending : List Entry → Type 0
Ascending [] = Unit {0}
Ascending (e ∷ es) = (last_key es < key_for e) × Ascending es

-- a line comes before another by code; or in one code by block; or in one block by class
abbrev pub Precedes : Entry → Entry → Type 0
Precedes d e =
    (rank d.code < rank e.code)
    ⊎ ((rank d.code ≡ rank e.code) × ((d.block < e.block) ⊎ ((d.block ≡ e.block) × (d.class < e.class))))

-- each line comes before the next in the paper's words, the last one first in the list
abbrev pub Ordered : List Entry → Type 0
Ordered [] = Unit {0}
Ordered (e ∷ []) = Unit {0}
Ordered (e ∷ d ∷ es) = Precedes d e × Ordered (d ∷ es)

-- a block and a class below the base
abbrev pub BelowBase : Entry → Type 0
BelowBase e = (e.block < order_base) × (e.class < order_base)

-- so the keys of two lines say which comes before the other
pub key_precedes : (d e : Entry) → BelowBase d → BelowBase e → (key_for d < key_for e) ↔ Precedes d e
unfolding key_of
key_precedes d e p q = (before, after)
  where
    before : key_for d < key_for e → Precedes d e
    before h =
        elim (dec_le (rank d.code + 1) (rank e.code)) [
          | yes r ↦ inl (omega arith)
          | no r ↦ elim (dec_le (d.block + 1) e.block) [
            | yes b ↦ inr (omega arith, inl (omega arith))
            | no b ↦ inr (omega arith, inr (omega arith, omega arith))
          ]
        ]

    after : Precedes d e → key_for d < key_for e
    after (inl r) = omega arith
    after (inr (r, inl b)) = omega arith
    after (inr (r, inr c)) = omega arith

-- ---- what admits a line

-- a line that is turned away, or one whose code has its block and class
abbrev pub Keyed : Result Entry Rule → Type 0
Keyed (Err r) = Unit {0}
Keyed (Ok e) = Key e.code e.block e.class

-- rule 19: 'a line that doesn't come after the one before it'; where it passes too the line is admitted
unfoldable pub rule19 : ℕ → Entry → Result Entry Rule
rule19 last e = pick (ltb last (key_for e)) (Ok e) (Err rule.OutOfOrder)

-- rule 11, 'code, block and class stood before', then rule 19
unfoldable pub rule11 : Bool → ℕ → Entry → Result Entry Rule
rule11 stood last e = pick stood (Err rule.LineRepeated) (rule19 last e)

-- a line after others, which `stood` tells of, and of which the last one has this key: both rules come after the line's own
abbrev pub admitted : (Entry → Bool) → ℕ → Result Entry Rule → Result Entry Rule
admitted stood last (Err r) = Err r
admitted stood last (Ok e) = rule11 (stood e) last e

-- the marks after a line: that of an admitted one is there
abbrev pub marks_after : Result Entry Rule → List ℕ → List ℕ
marks_after (Ok e) m = set m (index_for e) 1
marks_after (Err r) m = m

-- a line after others, of which the marks and the last key tell; and the marks after it
pub record Admits (l : Result Entry Rule) (last : ℕ) (m : List ℕ) (r : Result Entry Rule) (m' : List ℕ) : Type 0 where
  pub line : r ≡ admitted (λ e. has_mark m e.code e.block e.class) last l
  pub marks : m' ≡ marks_after r m

-- the same of lines that are turned away by any number, a caller's own too
abbrev pub by_number : Result Entry Rule → Result Entry ℕ
by_number (Ok e) = Ok e
by_number (Err r) = Err (rule_number r)

abbrev pub KeyedByNumber : Result Entry ℕ → Type 0
KeyedByNumber (Err n) = Unit {0}
KeyedByNumber (Ok e) = Key e.code e.block e.class

abbrev pub AdmitsByNumber : Result Entry ℕ → ℕ → List ℕ → Result Entry ℕ → List ℕ → Type 0
AdmitsByNumber (Err n) last m r m' = (r ≡ Err n) × (m' ≡ m)
AdmitsByNumber (Ok e) last m r m' = (a : Result Entry Rule) × Admits (Ok e) last m a m' × (r ≡ by_number a)

-- ---- sheets that are alike

-- two sheets' lines with the same figures: each line of the one is a line of the other, with the same amounts
pub record SameFigures (es fs : List Entry) : Type 0 where
  pub line : (k : Code) (b c : ℕ) → has_line es k b c ≡ has_line fs k b c
  pub first : (k : Code) (b c : ℕ) → lookup first_of es k b c ≡ lookup first_of fs k b c
  pub second : (k : Code) (b c : ℕ) → lookup second_of es k b c ≡ lookup second_of fs k b c
