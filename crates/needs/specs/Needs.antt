-- What a line needs. Document 02, #113: 'VOL class 5 needs GEN 2; MOR needs RSK class 1 of its block; ACQ needs VOL of its block and class; CRD of a
-- block needs an RSK line of it. A line with amounts all zero needs nothing.' A need is unmet where the line's 'companion is absent or has first
-- amount 0': an absent line's amounts are zeros, so that both are one test. Assumes nothing.
use Rattle.std.specs.Prelude.{Bool, true, false, not, List, ℕ, Option, Some, None, ltb, eqb}
use Rattle.basics.specs.Pick.{pick}
use Rattle.basics.specs.First.{any_to}
use Rattle.codes.specs.Codes.{risk_classes, mortality_risk_class, segregated_class, guarantee_class}
use Rattle.codes.specs.declared.Code.{Code}
use Rattle.codes.specs.declared.Code.TheVariants.{Rsk, Oth, Mor, Vol, Acq, Gen, Crd}
use Rattle.sheet_line.specs.declared.Entry.{Entry}
use Rattle.places.specs.Entries.{lookup, first_of}
use Rattle.needs.specs.declared.Label.{Label}

-- the line of a code, block and class
abbrev pub label : Code → ℕ → ℕ → Label
label k b c = record { code = k; block = b; class = c }

-- a line of the sheet without its amounts
abbrev pub label_for : Entry → Label
label_for e = label e.code e.block e.class

-- 'VOL class 5 needs GEN 2', which is of block 0
unfoldable pub volume_need : ℕ → Option Label
volume_need c = pick (eqb c segregated_class) (Some (label Gen 0 guarantee_class)) None

-- 'CRD of a block needs an RSK line of it', of whichever class: class 0 stands for that, as in the listing. CRD of block 0 belongs to no block
unfoldable pub credit_need : ℕ → Option Label
credit_need b = pick (eqb b 0) None (Some (label Rsk b 0))

-- what the line of a code, block and class needs, where its amounts aren't all zero
abbrev pub need_for : Code → ℕ → ℕ → Option Label
need_for Rsk b c = None
need_for Oth b c = None
need_for Mor b c = Some (label Rsk b mortality_risk_class)
need_for Vol b c = volume_need c
need_for Acq b c = Some (label Vol b c)
need_for Gen b c = None
need_for Crd b c = credit_need b

abbrev pub need_of : Label → Option Label
need_of l = need_for l.code l.block l.class

-- ---- met and unmet, by the first amounts of lines

-- whether an RSK line of a block has a first amount that isn't 0
unfoldable pub some_risk : (Code → ℕ → ℕ → ℕ) → ℕ → Bool
some_risk first b = any_to (λ c. ltb 0 (first Rsk b c)) risk_classes

-- whether a companion is there and its first amount isn't 0; of class 0, whether one of the block's RSK lines is so
unfoldable pub companion_serves : (Code → ℕ → ℕ → ℕ) → Label → Bool
companion_serves first m = pick (eqb m.class 0) (some_risk first m.block) (ltb 0 (first m.code m.block m.class))

-- whether a need is met
abbrev pub met : (Code → ℕ → ℕ → ℕ) → Option Label → Bool
met first None = true
met first (Some m) = companion_serves first m

-- 'amounts all zero'
unfoldable pub all_zero : ℕ → ℕ → Bool
all_zero a b = pick (eqb a 0) (eqb b 0) false

-- whether the need of a line with amounts a and b is unmet
unfoldable pub unmet_with : (Code → ℕ → ℕ → ℕ) → ℕ → ℕ → Label → Bool
unmet_with first a b l = pick (all_zero a b) false (not (met first (need_of l)))

-- whether the need of one of a sheet's lines is unmet
abbrev pub unmet : List Entry → Entry → Bool
unmet es e = unmet_with (lookup first_of es) e.first e.second (label_for e)

-- whether the need of a line is unmet, its own amounts looked up as its companion's are
abbrev pub unmet_by : (Code → ℕ → ℕ → ℕ) → (Code → ℕ → ℕ → ℕ) → Label → Bool
unmet_by first second l = unmet_with first (first l.code l.block l.class) (second l.code l.block l.class) l
