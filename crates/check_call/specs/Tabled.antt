-- What the steps of the check hand on to one another: the listing as it is gathered of the lines that can need another, looked up one after the other
-- in tables of first and of second amounts. Assumes nothing.
use borrow.Rule.Slice.PartMut.{put_mid}
use Rattle.std.specs.Prelude.{◌≡◌, Bool, List, [], ◌∷◌, ℕ, ◌+◌, length}
use Rattle.basics.specs.Pick.{pick}
use Rattle.basics.specs.Ascending.{ascending}
use Rattle.places.specs.Places.{tabled}
use Rattle.needs.specs.Needs.{unmet_by}
use Rattle.needs.specs.Needing.{most_listed, needing, line_at, listed_to}
use Rattle.text_answer.specs.Lent.{Done, lent}
use Rattle.text_answer.specs.Lent.Text.{bytes}

-- whether the n-th of those lines has an unmet need
abbrev pub unmet_at : List ℕ → List ℕ → ℕ → Bool
unmet_at firsts seconds n = unmet_by (tabled firsts) (tabled seconds) (needing n)

-- the lines of the listing for the first n of them
abbrev pub tabled_listing_to : List ℕ → List ℕ → ℕ → List ℕ
tabled_listing_to firsts seconds n = listed_to (tabled firsts) (tabled seconds) n

-- the listing of all of them
abbrev pub tabled_listing : List ℕ → List ℕ → List ℕ
tabled_listing firsts seconds = tabled_listing_to firsts seconds most_listed

-- it put into lent room, with rule 14
abbrev pub tabled_call : List ℕ → List ℕ → List ℕ → Done
tabled_call firsts seconds r = lent (bytes (tabled_listing firsts seconds)) r

-- how many of the first n have an unmet need
abbrev pub counted_to : List ℕ → List ℕ → ℕ → ℕ
counted_to firsts seconds n = length (ascending (unmet_at firsts seconds) (λ i. i ∷ []) n)

-- what the listing has for the n-th: its line, where its need is unmet
abbrev pub one_at : List ℕ → List ℕ → ℕ → List ℕ
one_at firsts seconds n = pick (unmet_at firsts seconds n) (line_at n) []

-- some bytes put into a room from a place on, and the place behind them
pub record PutAt (bytes : List ℕ) (at : ℕ) (room : List ℕ) (next : ℕ) (room' : List ℕ) : Type 0 where
  pub behind : next ≡ at + length bytes
  pub holds : room' ≡ put_mid at (length bytes) room bytes
