-- An accepted answer leaves its length, and the place as it was. Assumes nothing.
use Rattle.std.proofs.Common.{◌≡◌, ℕ, List, [], ◌∷◌, Ok, Result, refl, ap}
use Rattle.refusal.specs.declared.Place.{Place}
use Rattle.text_answer.specs.Lent.{stated_by_number}
use Rattle.exported_answer.specs.Caller.{CallerHas}
use Rattle.exported_answer.proofs.give_length_by_number.Goals as goal

accepted_by : (a : Result ℕ (ℕ × Place)) {n w : ℕ} {v p : List ℕ} → a ≡ Ok n → w ≡ n → CallerHas (stated_by_number a) 0 v p (w ∷ []) p
accepted_by a e q =
    rw e (record { number_is = refl; accepted_at_0 = λ z. (_, refl); values_are = ap (λ (m : ℕ). m ∷ []) q; place_is = refl })

pub returns-in-Ok : goal.returns-in-Ok
returns-in-Ok c = accepted_by _ c.in-Ok.is c.word.ensures
