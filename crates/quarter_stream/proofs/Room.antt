-- A step of the stream in the room: the minus signs of a line, and what a byte more does. Assumes nothing.
use Rattle.basics.proofs.Common.{◌≡◌, ℕ, ◌+◌, ◌<◌, ◌≤◌, List, length, get_or, drop, Some, None, Option, ControlFlow, Continue, Break, sym, refl, ap, ◌∙◌, subst, add-one, arith, drop_of_length-le}
use Rattle.basics.proofs.Common.{drop-cons, ℕ_discrete, if_eq, if_ne, if_lt, if_ge}
use Rattle.quarter_stream.specs.Sheets.{closing_minuses}
use Rattle.quarter_stream.specs.Steps.{minus_signs, not_closing, counted, Next, Next.stays_open, next, follow, scanned, unclosed, Within, Put, stepped, WithinStep, Stepped, ScannedTo, Scanned.found}
use Rattle.quarter_stream.specs.declared.OpenSheet.{OpenSheet}

-- ---- minus signs

pub no_minus : (m b : ℕ) → (b ≡ 45 → ⊥) → counted m b ≡ not_closing
unfolding counted
no_minus m b n = if_ne _ n

pub minus_more : (m b : ℕ) → b ≡ 45 → m < closing_minuses → counted m b ≡ m + 1
unfolding counted
minus_more m b e h = if_eq _ e ∙ if_lt _ h ∙ sym (add-one m)

pub minus_past : (m b : ℕ) → b ≡ 45 → closing_minuses ≤ m → counted m b ≡ not_closing
unfolding counted
minus_past m b e h = if_eq _ e ∙ if_ge _ h

-- what is something else stays so
pub other_counted : (b : ℕ) → counted not_closing b ≡ not_closing
other_counted b =
    elim (ℕ_discrete b 45) [
      | yes e ↦ minus_past not_closing b e (omega arith)
      | no n ↦ no_minus not_closing b n
    ]

-- a line that isn't 39 minus signs
other_line : (m : Option ℕ) → (m ≡ Some closing_minuses → ⊥) → minus_signs m ≡ closing_minuses → ⊥
other_line None n e = absurd (omega arith)
other_line (Some m) n e = n (ap Some e)

-- ---- a step

module _ {room : List ℕ} {h : OpenSheet} (W : Within (length room) h) {b : ℕ} where
  pub closes : b ≡ 10 → h.minuses ≡ Some closing_minuses → Stepped room h b (Break h.begun) room
  unfolding next
  closes e m = record { answer = sym (if_eq _ e ∙ if_eq _ (ap minus_signs m)); within = omega (arith, W) }

  module _ {n : ℕ} {after : List ℕ} (P : Put room h.length b n after) where
    pub ends_line : b ≡ 10 → (h.minuses ≡ Some closing_minuses → ⊥) → Stepped room h b (Continue (record { length = n; begun = n; minuses = Some 0 })) after
    unfolding next
    ends_line e m =
        record {
          answer = (λ i. stays_open (record { lines = P.bytes i; bytes = P.bytes i; minuses = 0 })) ∙ sym (if_eq _ e ∙ if_ne _ (other_line h.minuses m));
          within = record { begun = omega arith; length = P.high };
        }

    pub goes_on : {m : Option ℕ} → (b ≡ 10 → ⊥) → minus_signs m ≡ counted (minus_signs h.minuses) b
        → Stepped room h b (Continue (record { length = n; begun = h.begun; minuses = m })) after
    unfolding next
    goes_on {m} d c =
        record {
          answer = (λ i. stays_open (record { lines = P.below h.begun W.begun i; bytes = P.bytes i; minuses = c i })) ∙ sym (if_ne _ d);
          within = record { begun = omega (arith, W, P); length = P.high };
        }

-- ---- a chunk

-- after the bytes of a chunk up to i
pub record Scanning (before : List ℕ) (h₀ : OpenSheet) (chunk : List ℕ) (at : ℕ) (room : List ℕ) (h : OpenSheet) (i : ℕ) : Type 0 where
  pub long : length room ≡ length before
  pub within : Within (length before) h
  pub past : at ≤ i
  pub some : i ≤ length chunk
  pub rest : scanned (length before) (unclosed room h) (drop i chunk) ≡ scanned (length before) (unclosed before h₀) (drop at chunk)

module _ {before : List ℕ} {h₀ : OpenSheet} {chunk : List ℕ} {at : ℕ} {room : List ℕ} {h : OpenSheet} {i : ℕ} (F : Scanning before h₀ chunk at room h i) where
  pub all_scanned : length chunk ≤ i → ScannedTo before h₀ chunk at (Continue h) room
  unfolding scanned
  all_scanned l = record { answer = (rw (drop_of_length-le chunk l)) ∙ F.rest; within = F.within }

  module _ (l : i < length chunk) {s : ControlFlow ℕ OpenSheet} {after : List ℕ} (S : Stepped room h (get_or chunk i 0) s after) where
    turn : {n : Next} → stepped after s ≡ n
        → follow n (λ j. scanned (length before) j (drop (i + 1) chunk)) (λ x. found x (drop (i + 1) chunk)) ≡ scanned (length before) (unclosed before h₀) (drop at chunk)
    unfolding scanned
    turn e = rw (← e, S.answer, F.long, add-one) (rw (drop-cons chunk i 0 l) refl) ∙ F.rest

    pub scanned_closed : {n : ℕ} → s ≡ Break n → ScannedTo before h₀ chunk at (Break (record { length = n; next = i + 1 })) after
    unfolding follow
    scanned_closed {n} e =
        let w : n ≤ length room = subst (λ (z : ControlFlow ℕ OpenSheet). WithinStep (length room) z) e S.within in
        record { answer = turn (ap (stepped after) e); within = (omega (arith, F.long), omega (arith, F.past), omega arith) }

    pub scanned_on : {k : OpenSheet} → s ≡ Continue k → length after ≡ length room → Scanning before h₀ chunk at after k (i + 1)
    unfolding follow
    scanned_on {k} e m =
        let w : Within (length room) k = subst (λ (z : ControlFlow ℕ OpenSheet). WithinStep (length room) z) e S.within in
        record { long = m ∙ F.long; within = rw F.long at w; past = omega (arith, F.past); some = omega arith; rest = turn (ap (stepped after) e) }
