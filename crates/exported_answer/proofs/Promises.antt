-- What an export promises beside what it leaves; and what one leaves that hands lent room on. Assumes nothing.
use Rattle.std.proofs.Common.{◌≡◌, ℕ, List, sym, ap, ◌∙◌, subst}
use Rattle.refusal.specs.Outcome.{Outcome, Outcome.accepted}
use Rattle.text_answer.specs.Lent.{Done}
use Rattle.exported_answer.specs.Caller.{values_after, CallerHas}

-- what the call promises of its outcome holds, where 0 is given, of the values afterwards
pub with_promise : (P : Outcome → Type 0) {o o' : Outcome} {given : ℕ} {values₀ place₀ values place : List ℕ}
    → o' ≡ o → P o' → CallerHas o given values₀ place₀ values place → record { leaves : CallerHas o given values₀ place₀ values place; at_0 : given ≡ 0 → P (accepted values) }
with_promise P {values₀ = v₀} q h l =
    record {
      leaves = l;
      at_0 = λ z.
          let a = l.accepted_at_0 z in
          subst P (q ∙ a.1 ∙ sym (ap accepted (l.values_are ∙ ap (λ (x : Outcome). values_after x v₀) a.1))) h;
    }

-- ---- a call that was lent room: what is equal to what it gives

module _ {d e : Done} (q : d ≡ e) where
  pub leaves_promised : (P : Outcome → Type 0) {given : ℕ} {values₀ place₀ values place : List ℕ} → P d.outcome → CallerHas d.outcome given values₀ place₀ values place
      → record { room_after : d.room ≡ e.room; leaves : CallerHas e.outcome given values₀ place₀ values place; at_0 : given ≡ 0 → P (accepted values) }
  leaves_promised P {given} {values₀ = v₀} {place₀ = p₀} {values = v} {place = p} h l =
      let w = with_promise P (ap (λ (x : Done). x.outcome) q) h (subst (λ (x : Done). CallerHas x.outcome given v₀ p₀ v p) q l) in
      record { room_after = ap (λ (x : Done). x.room) q; leaves = w.leaves; at_0 = w.at_0 }
