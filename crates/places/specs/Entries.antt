-- The lines of a sheet as a list of entries: 'An absent line means zeros', and 'A block exists when it has an RSK or OTH line, zeros
-- included'. Assumes nothing.
use Rattle.std.specs.Prelude.{◌≡◌, ℕ, ◌<◌, List, [], ◌∷◌, Bool, true, false, ltb, eqb, length, get_or}
use Rattle.basics.specs.Pick.{pick}
use Rattle.codes.specs.Codes.{rank}
use Rattle.codes.specs.declared.Code.{Code}
use Rattle.sheet_line.specs.Rules.{row_for}
use Rattle.sheet_line.specs.declared.Entry.{Entry}

-- whether an entry has this code, block and class
unfoldable pub has_key : Code → ℕ → ℕ → Entry → Bool
has_key k b c e = pick (eqb (rank k) (rank e.code)) (pick (eqb b e.block) (eqb c e.class) false) false

-- what f says of the line with this code, block and class, and 0 where there is none: 'An absent line means zeros'
unfoldable pub lookup : (Entry → ℕ) → List Entry → Code → ℕ → ℕ → ℕ
lookup f [] k b c = 0
lookup f (e ∷ es) k b c = pick (has_key k b c e) (f e) (lookup f es k b c)

-- the first amount of a line
abbrev pub first_of : Entry → ℕ
first_of e = e.first

-- the second amount of a line
abbrev pub second_of : Entry → ℕ
second_of e = e.second

-- 1 for a line that is there
abbrev pub mark_of : Entry → ℕ
mark_of e = 1

-- whether one of the lines has this code, block and class
abbrev pub has_line : List Entry → Code → ℕ → ℕ → Bool
has_line es k b c = ltb 0 (lookup mark_of es k b c)

-- an entry has this code, block and class
pub record SameKey (k : Code) (b c : ℕ) (e : Entry) : Type 0 where
  pub code : k ≡ e.code
  pub block : b ≡ e.block
  pub class : c ≡ e.class

-- what rule 11 leaves: lines that each have a code, block and class of their own, so that each is found by them; past the end stands d
pub record DistinctKeys (es : List Entry) : Type 0 where
  -- two places with one code, block and class are one place
  pub one_place : (d : Entry) (i j : ℕ) → i < length es → j < length es
      → (let e = get_or es i d in SameKey e.code e.block e.class (get_or es j d)) → i ≡ j
  -- what is looked up by a line's code, block and class is said of that line
  pub found : (d : Entry) (i : ℕ) → i < length es → (f : Entry → ℕ)
      → let e = get_or es i d in lookup f es e.code e.block e.class ≡ f e

-- 'A block exists when it has an RSK or OTH line, zeros included'
unfoldable pub exists : List Entry → ℕ → Bool
exists [] b = false
exists (e ∷ es) b = pick (row_for e).makes_block (pick (eqb e.block b) true (exists es b)) (exists es b)
