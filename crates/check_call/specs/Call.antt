-- The check of document 02, #113: what it answers, and every byte of the lent room afterwards. 'We want a check that reads an accepted sheet'; 'A refused
-- sheet gets its refusal; 14, last, here means room shorter than the listing.' As with every call that writes into lent room (#110), 'a refusal
-- writes nothing; accepted, they give the length written, and bytes past it keep their content'. What tsav-check prints is the printout of the same
-- text. Assumes nothing.
use Rattle.std.specs.Prelude.{◌≡◌, List, [], ◌∷◌, ℕ, take}
use Rattle.refusal.specs.Outcome.{Outcome}
use Rattle.refusal.specs.Outcome.Outcome.{accepted, refused}
use Rattle.sheet_line.specs.declared.Entry.{Entry}
use Rattle.judgement.specs.Judgement.{Judgement, judgement}
use Rattle.judgement.specs.Judgement.Judgement.{sound}
use Rattle.needs.specs.Listing.{listing}
use Rattle.needs.specs.Listed.{ListedExactly}
use Rattle.text_answer.specs.Lent.{Text, Done}
use Rattle.sheet_answer.specs.Judged.{text_of, judged_call}

-- what the call has to say of a judged sheet: the sheet's own refusal, by every rule but 14, or the listing
abbrev pub listing_to : Judgement → Text
listing_to j = text_of listing j

-- the call on a sheet s and lent room r: its judgement, then rule 14, and then the listing
abbrev pub check_call : List ℕ → List ℕ → Done
check_call s r = judged_call listing s r

-- 'A line is listed exactly when its need is unmet', of a sheet, the call's outcome and the room afterwards: a sheet that is accepted is judged to be
-- sound, and of its lines the bytes written are such a listing
abbrev pub ListsExactly : List ℕ → Outcome → List ℕ → Type 0
ListsExactly s (accepted []) r = ⊥
ListsExactly s (accepted (n ∷ ns)) r = (es : List Entry) × (judgement s ≡ sound es) × ListedExactly es (take n r)
ListsExactly s (refused n p) r = Unit {0}
