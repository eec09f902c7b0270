-- A list that is written from its front, an element or a stretch at a time. Assumes nothing.
use borrow.Rule.Slice.PartMut.{put_mid, same_len_mid}
use Rattle.std.proofs.Common.{◌≡◌, ℕ, suc, ◌+◌, ◌-◌, ◌<◌, ◌≤◌, List, [], ◌∷◌, ◌++◌, length, take, drop, set, sym, refl, ap, ◌∙◌, append_assoc, append-nil, arith, length-append, length-drop}
use Rattle.std.proofs.Common.{length-set, take-append-drop, drop_of_length-le, length-take-le, drop-drop, take_at, drop_at}
use native.Mathlib.Nat.{add-sub_cancel_left}
use lib.Seq.{set_split, append_snoc}

-- l₀ with P written over its first k elements
pub record Wrote (l₀ : List ℕ) (k : ℕ) (P l : List ℕ) : Type 0 where
  pub text : l ≡ P ++ drop k l₀
  pub count : length P ≡ k
  pub long : length l ≡ length l₀

pub nothing : (l : List ℕ) → Wrote l 0 [] l
nothing l = record { text = refl; count = refl; long = refl }

module _ {l₀ : List ℕ} {k : ℕ} {P l : List ℕ} (W : Wrote l₀ k P l) where
  pub front : take k l ≡ P
  front = rw W.text (take_at P (drop k l₀) k W.count)

  pub behind : drop k l ≡ drop k l₀
  behind = rw W.text (drop_at P (drop k l₀) k W.count)

  -- m elements more, put back after they were lent
  pub part : (m : ℕ) (ys : List ℕ) → k + m ≤ length l₀ → length ys ≡ m → Wrote l₀ (k + m) (P ++ ys) (put_mid k m l ys)
  part m ys h e = grind (arith, length-drop, front, behind, drop-drop, append_assoc, length-append, same_len_mid, length-take-le)

  -- the same, its length written as the code lends it
  pub lent_part : (m : ℕ) (ys : List ℕ) → k + m ≤ length l₀ → length ys ≡ m → Wrote l₀ (k + m) (P ++ ys) (put_mid k (k + m - k) l ys)
  lent_part m ys h e = rw (add-sub_cancel_left k m) (part m ys h e)

  -- one element more, stored
  pub next : (v : ℕ) → k < length l₀ → Wrote l₀ (suc k) (P ++ (v ∷ [])) (set l k v)
  next v h =
      let o : k < length l = omega (arith, W.long) in
      let e : suc k ≡ k + 1 = omega arith in
      let d : drop (suc k) l ≡ drop (suc k) l₀ = rw e (sym (drop-drop 1 k l) ∙ ap (λ (t : List ℕ). drop 1 t) behind ∙ drop-drop 1 k l₀) in
      record {
        text = set_split l k v o ∙ rw (front, d) (sym (append_snoc P v (drop (suc k) l₀)));
        count = length-append P (v ∷ []) ∙ omega (arith, W.count);
        long = length-set l k v ∙ W.long;
      }

  -- where nothing is left to write
  pub all_written : length l₀ ≤ k → l ≡ P
  all_written h = W.text ∙ rw (drop_of_length-le l₀ h) (append-nil P)

-- what stands in front of a list was written there
pub from_front : {k : ℕ} {P l : List ℕ} → take k l ≡ P → k ≤ length l → Wrote l k P l
from_front {k} {P} {l} e h = grind (arith, take-append-drop, length-take-le)

-- .. and m elements are put back behind it, as the code lends them
pub put_behind : (k : ℕ) (l : List ℕ) {P : List ℕ} → take k l ≡ P → (m : ℕ) (ys : List ℕ) → k + m ≤ length l → length ys ≡ m
    → Wrote l (k + m) (P ++ ys) (put_mid k (k + m - k) l ys)
put_behind k l e m ys h y = lent_part (from_front e (omega arith)) m ys h y

-- a stretch of m elements, as the code lends it
pub stretch_long : (l : List ℕ) (k m : ℕ) → k + m ≤ length l → length (take (k + m - k) (drop k l)) ≡ m
stretch_long l k m h = rw (add-sub_cancel_left k m) (length-take-le m (drop k l) (rw length-drop (omega arith)))

-- what is the same from a place on is so from any further one
pub from_further : (x y : List ℕ) {k m : ℕ} → k ≤ m → drop k x ≡ drop k y → drop m x ≡ drop m y
from_further x y {k} {m} h e =
    let n : k + (m - k) ≡ m = omega arith in
    rw n at (sym (drop-drop (m - k) k x) ∙ ap (drop (m - k)) e ∙ drop-drop (m - k) k y)
