-- The listing as it is counted and written, a line that can need another at a time. Assumes nothing.
use Rattle.basics.proofs.Common.{◌≡◌, ℕ, zero, suc, ◌+◌, ◌-◌, ◌*◌, ◌≤◌, Bool, true, false, List, [], ◌∷◌, ◌++◌, length, Some, sym, refl, ap, ◌∙◌, arith, length-append, take-append-drop, ℕ_discrete}
use Rattle.basics.proofs.Common.{put_mid, ascending, pick, if_true, if_false, Wrote, part}
use Rattle.basics.proofs.Ascents as ascents
use Rattle.places.specs.Places.{tabled}
use Rattle.needs.specs.Needs.{need_of}
use Rattle.needs.specs.Listing.{listed_bytes, listed_line, listed_for}
use Rattle.needs.specs.Needing.{most_listed, needing, line_at}
use Rattle.needs.specs.declared.Label.{Label}
use Rattle.needs.proofs.ListedLines.{has_companion, unmet_long}
use Rattle.check_call.specs.Tabled.{unmet_at, tabled_listing_to, tabled_listing, counted_to, one_at, PutAt}

module _ (f s : List ℕ) where
  -- ---- a line more, counted

  module _ (n : ℕ) (h : 1 ≤ n) where
    pub count_more : unmet_at f s n ≡ true → counted_to f s (n - 1) + 1 ≡ counted_to f s n
    count_more t = sym (ap length (ascents.one_more (unmet_at f s) (λ i. i ∷ []) n h t) ∙ length-append (ascending (unmet_at f s) (λ i. i ∷ []) (n - 1)) (n ∷ []))

    pub count_same : unmet_at f s n ≡ false → counted_to f s (n - 1) ≡ counted_to f s n
    count_same t = sym (ap length (ascents.none_more (unmet_at f s) (λ i. i ∷ []) n h t))

  -- no more than there are
  pub count_most : (n : ℕ) → counted_to f s n ≤ n
  count_most n = ascents.few (unmet_at f s) (λ i. i) n

  -- ---- a line for each that is counted

  -- an unmet need has a companion
  companion : (n : ℕ) → unmet_at f s n ≡ true → (m : Label) × (need_of (needing n) ≡ Some m)
  companion n t = has_companion (tabled f) _ _ (needing n) t

  line_long : (n : ℕ) → unmet_at f s n ≡ true → length (line_at n) ≡ listed_bytes
  line_long n t = unmet_long (tabled f) _ _ (needing n) t

  pub counted_long : (n : ℕ) → length (tabled_listing_to f s n) ≡ listed_bytes * counted_to f s n
  unfolding ascending pick
  counted_long zero = refl
  counted_long (suc n) = go (counted_long n) (unmet_at f s (suc n)) refl
    where
      go : length (tabled_listing_to f s n) ≡ listed_bytes * counted_to f s n → (t : Bool) → unmet_at f s (suc n) ≡ t
          → length (tabled_listing_to f s n ++ pick t (line_at (suc n)) []) ≡ listed_bytes * length (ascending (unmet_at f s) (λ i. i ∷ []) n ++ pick t (suc n ∷ []) [])
      go ih true t =
          rw (length-append (tabled_listing_to f s n) (line_at (suc n)), length-append (ascending (unmet_at f s) (λ i. i ∷ []) n) (suc n ∷ []))
          (omega (arith, ih, line_long (suc n) t))
      go ih false t = rw (length-append (tabled_listing_to f s n) [], length-append (ascending (unmet_at f s) (λ i. i ∷ []) n) []) (omega (arith, ih))

  -- the first n are no more than all
  tabled_listing_most : (n m : ℕ) → n ≤ m → length (tabled_listing_to f s n) ≤ length (tabled_listing_to f s m)
  unfolding ascending
  tabled_listing_most n zero h = let e : n ≡ 0 = omega arith in rw e (omega arith)
  tabled_listing_most n (suc m) h =
      elim (ℕ_discrete n (suc m)) [
        | yes e ↦ rw e (omega arith)
        | no e ↦ rw (length-append (tabled_listing_to f s m)) (omega (arith, tabled_listing_most n m (omega arith)))
      ]

  -- ---- a line more, written

  module _ (n at : ℕ) (room : List ℕ) where
    pub none_put : unmet_at f s n ≡ false → PutAt (one_at f s n) at room at room
    none_put t = rw (if_false (line_at n) {y = []} t) (record { behind = omega arith; holds = sym (take-append-drop at room) })

    pub one_long : unmet_at f s n ≡ true → length (one_at f s n) ≡ listed_bytes
    one_long t = ap length (if_true [] t) ∙ line_long n t

    pub one_put : unmet_at f s n ≡ true → {l m : Label} → l ≡ needing n → need_of (needing n) ≡ Some m → {ys : List ℕ} → ys ≡ listed_line l m
        → PutAt (one_at f s n) at room (at + listed_bytes) (put_mid at (at + listed_bytes - at) room ys)
    one_put t {l} {m} e q {ys} y =
        let o : one_at f s n ≡ ys = if_true [] t ∙ ap (listed_for (needing n)) q ∙ ap (λ (x : Label). listed_line x m) (sym e) ∙ sym y in
        let k : at + listed_bytes - at ≡ length (one_at f s n) = omega (arith, one_long t) in
        record { behind = omega (arith, one_long t); holds = rw (k, ← o) }

  -- one more in order
  next_one : (n : ℕ) → 1 ≤ n → tabled_listing_to f s n ≡ tabled_listing_to f s (n - 1) ++ one_at f s n
  unfolding ascending
  next_one zero h = absurd (omega arith)
  next_one (suc n) h = let e : suc n - 1 ≡ n = omega arith in rw e

  module _ {room₀ room : List ℕ} {at : ℕ} (n : ℕ) (h : 1 ≤ n) (w : Wrote room₀ at (tabled_listing_to f s (n - 1)) room) where
    -- the room that is left has a line's bytes
    pub room_left : n ≤ most_listed → length (tabled_listing f s) ≤ length room₀ → at + length (one_at f s n) ≤ length room
    room_left k l =
        let m = ap length (next_one n h) ∙ length-append (tabled_listing_to f s (n - 1)) (one_at f s n) in
        omega (arith, m, w.count, w.long, tabled_listing_most n most_listed k)

    pub next_put : {next : ℕ} {room' : List ℕ} → at + length (one_at f s n) ≤ length room → PutAt (one_at f s n) at room next room'
        → Wrote room₀ next (tabled_listing_to f s (n + 1 - 1)) room'
    next_put k p =
        let one = one_at f s n in
        let e : n + 1 - 1 ≡ n = omega arith in
        rw (e, p.behind, p.holds, next_one n h) (part w (length one) one (omega (arith, k, w.long)) refl)
