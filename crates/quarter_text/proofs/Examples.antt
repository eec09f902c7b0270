-- What follows the lines of the sheets, computed: of 60 sheets and of one more, and where the last one is not closed. Assumes nothing.
use Rattle.basics.proofs.Common.{◌≡◌, ℕ, List, [], ◌∷◌, map, replicate, refl, pick}
use Rattle.refusal.specs.declared.Place.TheVariants as place
use Rattle.report_line.specs.declared.Row.{Row}
use Rattle.text_answer.specs.Printing.{refusal_row}
use Rattle.report.specs.Rows.{items_from}
use Rattle.quarter_stream.specs.Sheets.{count}
use Rattle.quarter_text.specs.Printout.{SUM, closed_or25, ending}

-- of n sheets that are closed, and a rest
abbrev after : ℕ → List ℕ → List Row
after n rest = ending (record { closed = replicate n []; rest = rest })

abbrev a : List ℕ
a = 65 ∷ []

no_sheet : map (λ (r : Row). r.code) (after 0 []) ≡ replicate 8 SUM
unfolding ending closed_or25 count pick items_from
no_sheet = refl

sixty : map (λ (r : Row). r.code) (after 60 []) ≡ replicate 8 SUM
unfolding ending closed_or25 count pick items_from
sixty = refl

sixty_one : after 61 [] ≡ refusal_row 24 (place.Sheet 61) ∷ []
unfolding ending closed_or25 count pick
sixty_one = refl

sixty_and_a_byte : after 60 a ≡ refusal_row 24 (place.Sheet 61) ∷ []
unfolding ending closed_or25 count pick
sixty_and_a_byte = refl

sixtieth_open : after 59 a ≡ refusal_row 25 (place.Sheet 60) ∷ []
unfolding ending closed_or25 count pick
sixtieth_open = refl

first_open : after 0 a ≡ refusal_row 25 (place.Sheet 1) ∷ []
unfolding ending closed_or25 count pick
first_open = refl
