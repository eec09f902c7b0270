-- The fold is of the seven numbers, from 0. Assumes nothing.
use Rattle.basics.proofs.Common.{◌≡◌, ℕ, max, List, [], ◌∷◌, length, fold, ap, ◌∙◌, arith, rules}
use Rattle.std.proofs.iter.runs.Made.{chains}
use Rattle.guideline.specs.Block.{largest_of}
use Rattle.insurance.proofs.largest_of.Goals as goal

-- the largest of a list's numbers, taken from the first to the last, is that of its first number and the others' largest
one_more : (n : ℕ) (xs : List ℕ) → fold max n xs ≡ max n (fold max 0 xs)
one_more n [] = omega arith
one_more n (x ∷ xs) = omega (arith, one_more (max n x) xs, one_more (max 0 x) xs)

first : (x : ℕ) (xs : List ℕ) → fold max 0 (x ∷ xs) ≡ max x (fold max 0 xs)
first x xs = omega (arith, one_more (max 0 x) xs)

of_seven : (y : List ℕ) → length y ≡ 7 → fold max 0 y ≡ largest_of y
unfolding largest_of
of_seven (a ∷ b ∷ c ∷ d ∷ e ∷ f ∷ g ∷ []) h =
    let last : fold max 0 (g ∷ []) ≡ g = omega arith in
    first a (b ∷ c ∷ d ∷ e ∷ f ∷ g ∷ [])
    ∙ ap (max a) (first b (c ∷ d ∷ e ∷ f ∷ g ∷ [])
    ∙ ap (max b) (first c (d ∷ e ∷ f ∷ g ∷ [])
    ∙ ap (max c) (first d (e ∷ f ∷ g ∷ [])
    ∙ ap (max d) (first e (f ∷ g ∷ [])
    ∙ ap (max e) (first f (g ∷ [])
    ∙ ap (max f) last)))))
of_seven [] h = absurd (omega arith)
of_seven (a ∷ []) h = absurd (omega arith)
of_seven (a ∷ b ∷ []) h = absurd (omega arith)
of_seven (a ∷ b ∷ c ∷ []) h = absurd (omega arith)
of_seven (a ∷ b ∷ c ∷ d ∷ []) h = absurd (omega arith)
of_seven (a ∷ b ∷ c ∷ d ∷ e ∷ []) h = absurd (omega arith)
of_seven (a ∷ b ∷ c ∷ d ∷ e ∷ f ∷ []) h = absurd (omega arith)
of_seven (a ∷ b ∷ c ∷ d ∷ e ∷ f ∷ g ∷ i ∷ r) h = absurd (omega arith)

pub returns : goal.returns
returns c =
    let folded : c.fold.result ≡ fold max 0 c.args.y.now = search (rules, chains) in
    folded ∙ of_seven _ c.told-y
