-- The answers in small, computed: a refusal of the input is the call's whatever the room, 14 comes after it, and a room of the text's length is
-- enough. Assumes nothing.
use Rattle.basics.proofs.Common.{◌≡◌, ℕ, List, [], ◌∷◌, refl, pick}
use Rattle.refusal.specs.Outcome.Outcome.{accepted}
use Rattle.refusal.specs.declared.Place.TheVariants.{Line, Nowhere}
use Rattle.text_answer.specs.Lent.{Done, untouched, lent, Text.no_text, Text.bytes}

-- no room and one of two bytes to an input that 12 turns away and to one that 3 does; rooms of 0, 1, 2 and 3 bytes to a text of two; none to an
-- empty one
abbrev pub found : List Done
found =
    lent (no_text 12 Nowhere) [] ∷ lent (no_text 12 Nowhere) (7 ∷ 8 ∷ [])
    ∷ lent (no_text 3 (Line 5)) [] ∷ lent (no_text 3 (Line 5)) (7 ∷ 8 ∷ [])
    ∷ lent (bytes (1 ∷ 2 ∷ [])) [] ∷ lent (bytes (1 ∷ 2 ∷ [])) (7 ∷ [])
    ∷ lent (bytes (1 ∷ 2 ∷ [])) (7 ∷ 8 ∷ []) ∷ lent (bytes (1 ∷ 2 ∷ [])) (7 ∷ 8 ∷ 9 ∷ [])
    ∷ lent (bytes []) [] ∷ []

-- what is given of n bytes
abbrev pub gives : ℕ → List ℕ → Done
gives n room = record { outcome = accepted (n ∷ []); room = room }

abbrev pub wanted : List Done
wanted =
    untouched 12 Nowhere [] ∷ untouched 12 Nowhere (7 ∷ 8 ∷ [])
    ∷ untouched 3 (Line 5) [] ∷ untouched 3 (Line 5) (7 ∷ 8 ∷ [])
    ∷ untouched 14 Nowhere [] ∷ untouched 14 Nowhere (7 ∷ [])
    ∷ gives 2 (1 ∷ 2 ∷ []) ∷ gives 2 (1 ∷ 2 ∷ 9 ∷ [])
    ∷ gives 0 [] ∷ []

pub cases : found ≡ wanted
unfolding lent pick
cases = refl
