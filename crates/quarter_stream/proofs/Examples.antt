-- Sheets of short inputs, computed. Assumes nothing.
use Rattle.basics.proofs.Common.{◌≡◌, ℕ, List, [], ◌∷◌, ◌++◌, replicate, refl, first_from, pick}
use Rattle.quarter_stream.specs.Sheets.{closing, starts, line_start, closes_at, sheets_in, sheets_of}

-- A and a line feed
a : List ℕ
a = 65 ∷ 10 ∷ []

none : sheets_of [] ≡ record { closed = []; rest = [] }
unfolding sheets_in closes_at starts line_start first_from pick
none = refl

at_start : sheets_of closing ≡ record { closed = [] ∷ []; rest = [] }
unfolding sheets_in closes_at starts line_start first_from pick
at_start = refl

two_in_a_row : sheets_of (a ++ closing ++ closing ++ a) ≡ record { closed = a ∷ [] ∷ []; rest = a }
unfolding sheets_in closes_at starts line_start first_from pick a
two_in_a_row = refl

thirty_eight : sheets_of (replicate 38 45 ++ (10 ∷ [])) ≡ record { closed = []; rest = replicate 38 45 ++ (10 ∷ []) }
unfolding sheets_in closes_at starts line_start first_from pick
thirty_eight = refl

forty : sheets_of (45 ∷ closing) ≡ record { closed = []; rest = 45 ∷ closing }
unfolding sheets_in closes_at starts line_start first_from pick
forty = refl

no_line_feed : sheets_of (replicate 39 45) ≡ record { closed = []; rest = replicate 39 45 }
unfolding sheets_in closes_at starts line_start first_from pick
no_line_feed = refl

-- a sheet that does not end in a line feed swallows its closing line and the next sheet
swallowed : sheets_of ((65 ∷ []) ++ closing ++ a ++ closing) ≡ record { closed = ((65 ∷ []) ++ closing ++ a) ∷ []; rest = [] }
unfolding sheets_in closes_at starts line_start first_from pick a
swallowed = refl
