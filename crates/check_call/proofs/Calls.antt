-- The call's text is what judging finds: the refusal, or the listing, which is gathered of the tables that hold a sound sheet's lines. What is promised of
-- it, and that it is never longer than the longest listing. Assumes nothing.
use Rattle.basics.proofs.Common.{◌≡◌, ℕ, suc, ◌≤◌, List, length, drop, sym, refl, ◌∙◌, arith, take_at, subst⁻¹}
use Rattle.refusal.specs.Outcome.Outcome.{refused}
use Rattle.refusal.specs.declared.Place.{Place, TheVariants.Nowhere}
use Rattle.sheet_line.specs.declared.Entry.{Entry}
use Rattle.judgement.specs.Judgement.{judgement, findings, Judgement.turned_away, Judgement.sound, Findings.figures}
use Rattle.ledger.specs.declared.Ledger.{Ledger}
use Rattle.judgement.specs.Steps.{LinesOf}
use Rattle.judgement.proofs.Acceptance.{sound_passed}
use Rattle.judgement.proofs.AlikeSheets.{sound_ascending}
use Rattle.judgement.proofs.Rules.{findings_figures}
use Rattle.needs.specs.Listing.{listing}
use Rattle.needs.specs.Listed.{ListedExactly}
use Rattle.needs.specs.Needing.{most_listed, longest_listing, needing, line_at}
use Rattle.needs.proofs.LineNumbers.{keyed}
use Rattle.needs.proofs.ListedLines.{same_gathered, listing_gathered, longest}
use Rattle.needs.proofs.ExactListing.{listed_exactly}
use Rattle.text_answer.specs.Lent.{Done, TooLong}
use Rattle.text_answer.specs.Printing.{ReadsRefusal, printout}
use Rattle.sheet_answer.proofs.Judgements as judged
use Rattle.sheet_answer.proofs.Judgements.{by_answer, of_lines}
use Rattle.needs_unmet.proofs.Lookups.{same_unmet}
use Rattle.check_call.specs.Call.{listing_to, check_call, ListsExactly}
use Rattle.check_call.specs.Tabled.{tabled_call}

-- ---- the call's answers

module _ (s r : List ℕ) where
  pub off_tables : (n : ℕ) (rows : List (ℕ × List ℕ)) (sum ro x : ℕ) → figures n rows sum ro x ≡ findings (judgement s) → (l : Ledger)
      → LinesOf (judgement s) l
      → tabled_call l.firsts l.seconds r ≡ check_call s r
  off_tables n rows sum ro x e t H =
      let w = findings_figures (judgement s) e in
      let es = w.0 in
      of_lines listing s r w.1
      (same_gathered line_at _ _ most_listed (λ i l. same_unmet (H es w.1) (needing (suc i)) (keyed (suc i) (omega arith) (omega arith)))
      ∙ sym (listing_gathered es (sound_passed s es w.1).lines (sound_ascending s es w.1)))

  -- 'A line is listed exactly when its need is unmet'
  abbrev Lists : Done → Type 0
  Lists d = ListsExactly s d.outcome d.room

  call_lists : Lists (check_call s r)
  call_lists =
      by_answer listing s r Lists (λ n p. tt)
      (λ es e.
      let t = listing es in
      (es, e, subst⁻¹ (ListedExactly es) (take_at t (drop (length t) r) (length t) refl) (listed_exactly es (sound_passed s es e).lines (sound_ascending s es e))))

  pub promised : (d : Done) → d ≡ check_call s r → record { answer : d ≡ check_call s r; lists_exactly : ListsExactly s d.outcome d.room }
  promised d e = record { answer = e; lists_exactly = subst⁻¹ Lists e call_lists }

-- ---- its length

pub never_longer : (s : List ℕ) (es : List Entry) → judgement s ≡ sound es → length (listing es) ≤ longest_listing
never_longer s es e = longest es (sound_passed s es e).lines (sound_ascending s es e)

-- so with room for the longest listing it never answers 14
pub never_14 : (s r : List ℕ) → longest_listing ≤ length r → (p : Place) → (check_call s r).outcome ≡ refused 14 p → ⊥
never_14 s r = judged.never_14 listing s r (never_longer s)

-- '14, last, here means room shorter than the listing': a sheet refused by 14 has a listing, longer than the room, and a room of its length takes it
pub refused_by_14 : (s r : List ℕ) (p : Place) → (check_call s r).outcome ≡ refused 14 p → (p ≡ Nowhere) × TooLong (check_call s) (listing_to (judgement s)) r
refused_by_14 s r = judged.refused_by_14 listing s r

-- ---- its REF line

-- the number and the place of a refusal fit their columns: both are read back off the line that is printed
pub refusal_read : (s : List ℕ) (n : ℕ) (p : Place) → judgement s ≡ turned_away n p → ReadsRefusal n p (printout (listing_to (judgement s)))
refusal_read s = judged.refusal_read listing s
