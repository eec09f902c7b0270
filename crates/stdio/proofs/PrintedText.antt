-- What a program prints is the text of its input: the bytes read are the input, cut at the room, and where all inputs that are too long have one text,
-- a room that takes a byte more than the longest shows enough of each. Assumes nothing.
use native.Mathlib.Decide.{dec_le}
use Rattle.std.proofs.Common.{◌≡◌, ℕ, ◌<◌, List, ◌++◌, length, take, Some, None, Ok, Err, Option, Result, sym, ap, ◌∙◌, subst, append-nil, arith, length-take-le, take_all, Bor}
use Rattle.std.specs.Fn.{Once, FnOnceReturnsAt}
use Rattle.std.specs.Io.KnownBytes.{Appends}
use Rattle.std.proofs.Math.Seq.{take-append_seam}
use Rattle.stdio.specs.declared.Failure.{Failure, TheVariants.Unread, TheVariants.Unwritten}
use Rattle.stdio.specs.Answered.{Whole, Answered, Prints}

read_is : (room : ℕ) (xs : List ℕ) (rest : Option (List ℕ)) (s : List ℕ) → Whole room (Some xs) rest s → s ≡ take room xs
read_is room xs None s w = absurd w.taken
read_is room xs (Some ys) s w =
    elim (dec_le room (length s)) [
      | yes h ↦
          let full : length s ≡ room = omega (arith, w.within, h) in
          sym (ap (λ n. take n xs) (sym full) ∙ ap (take (length s)) w.taken ∙ take-append_seam s ys)
      | no h ↦
          let all : xs ≡ s = w.taken ∙ ap (λ l. s ++ l) (w.ended (omega (arith, h))) ∙ append-nil s in
          sym (ap (take room) all ∙ take_all room s w.within)
    ]

module _ {F : Type 0} (g : Once F (Bor (List ℕ) × Unit {0}) (Bor (List ℕ))) (call : F) (room : ℕ) (text : List ℕ → List ℕ) (longest : ℕ) (over : List ℕ)
    (wide : longest < room) (too_long : (s : List ℕ) → longest < length s → text s ≡ over) where
  cut_same : (s : List ℕ) → text (take room s) ≡ text s
  cut_same s =
      elim (dec_le (length s) room) [
        | yes h ↦ ap text (take_all room s h)
        | no h ↦
            let l : length (take room s) ≡ room = length-take-le room s (omega (arith, h)) in
            too_long (take room s) (omega (arith, l, wide)) ∙ sym (too_long s (omega (arith, h, wide)))
      ]

  pub prints : ((s : List ℕ) (t : Bor (List ℕ)) → FnOnceReturnsAt g call s t → t.now ≡ text s)
      → (left rest before after : Option (List ℕ)) (r : Result (Unit {0}) Failure)
      → Answered g call room left rest before after r → Prints text left before after r
  prints says (Some xs) rest before after (Ok u) w =
      subst (Appends before after) (says w.input w.text w.says ∙ ap text (read_is room xs rest w.input w.whole) ∙ cut_same xs) w.appended
  prints says None rest before after (Ok u) w = (w.input, subst (Appends before after) (says w.input w.text w.says) w.appended)
  prints says left rest before after (Err Unread) w = w.0
  prints says left rest before after (Err Unwritten) w = tt
