-- The lines that can need another, in the order of lines: every MOR line, the VOL lines of class 5, every ACQ line, and the CRD lines of blocks. The
-- call goes through these. Assumes nothing.
use Rattle.std.specs.Prelude.{List, ℕ, ◌+◌, ◌-◌, ◌*◌, ◌/◌, ◌%◌, ltb}
use Rattle.basics.specs.Pick.{pick}
use Rattle.basics.specs.Ascending.{ascending}
use Rattle.sizes.specs.Sizes.{non_participating, participating, territories, volume_classes, volume_pairs}
use Rattle.codes.specs.Codes.{sums_class, segregated_class, dividend_class}
use Rattle.codes.specs.declared.Code.{Code}
use Rattle.codes.specs.declared.Code.TheVariants.{Mor, Vol, Acq, Crd}
use Rattle.needs.specs.Needs.{label, need_of, unmet_by}
use Rattle.needs.specs.Listing.{listed_bytes, listed_for}
use Rattle.needs.specs.declared.Label.{Label}

-- the number of the last MOR line
abbrev pub last_mor : ℕ
last_mor = non_participating

-- of the last VOL line of class 5
abbrev pub last_vol : ℕ
last_vol = last_mor + territories

-- of the last ACQ line
abbrev pub last_acq : ℕ
last_acq = last_vol + volume_pairs

-- how many there are: 176
abbrev pub most_listed : ℕ
most_listed = last_acq + participating

-- a line for each: 3,520 bytes
abbrev pub longest_listing : ℕ
longest_listing = listed_bytes * most_listed

-- the lines by their number, from 1 on
unfoldable pub needing : ℕ → Label
needing n =
    pick (ltb last_acq n) (label Crd (n - last_acq + non_participating) dividend_class)
    (pick (ltb last_vol n) (label Acq ((n - last_vol - 1) / volume_classes + 1) ((n - last_vol - 1) % volume_classes + 1))
    (pick (ltb last_mor n) (label Vol (n - last_mor) segregated_class)
    (label Mor n sums_class)))

-- the line that the listing has for one of them
abbrev pub line_at : ℕ → List ℕ
line_at n = listed_for (needing n) (need_of (needing n))

-- the listing of the first n of them, by the first and the second amounts of lines
abbrev pub listed_to : (Code → ℕ → ℕ → ℕ) → (Code → ℕ → ℕ → ℕ) → ℕ → List ℕ
listed_to first second n = ascending (λ i. unmet_by first second (needing i)) line_at n
