-- What is written is what `finish` left in front, the text of the bytes that were taken, and its demand is of them. Assumes nothing.
use Rattle.std.proofs.Common.{◌≡◌, ℕ, List, take, drop, IfErr, OnOk, Some, None, Ok, Err, Option, Result, sym, ap, ◌∙◌, subst, take_at}
use Rattle.std.specs.Io.KnownBytes.{Appends}
use Rattle.stdio.specs.declared.Failure.{Failure, TheVariants.Unread, TheVariants.Unwritten}
use Rattle.quarter.specs.declared.Quarter.{Quarter}
use Rattle.quarter.specs.Steps.{After, Finished}
use Rattle.quarter_text.specs.Printout.{quarter_text}
use Rattle.quarter_text.specs.Demand.{QuarterDemand}
use Rattle.tsav_quarter.specs.Input.{TakenAll}
use Rattle.tsav_quarter.specs.Output.{Summarized, PrintsQuarter}
use Rattle.tsav_quarter.proofs.answer.Goals as goal

summarized : (s room out out' : List ℕ) (q : Quarter) (n : ℕ) (before after : Option (List ℕ)) → After s room out q → Finished out q n out'
    → Appends before after (take n out') → Summarized before after s
summarized s room out out' q n before after taken finished written =
    let p = finished.text s room taken in
    let t : take n out' ≡ quarter_text s = ap (take n) p.bytes ∙ take_at (quarter_text s) (drop n out) n (sym p.count) in
    record {
      text = subst (λ (v : List ℕ). Appends before after v) t written;
      demand = subst (λ (v : List ℕ). QuarterDemand s v) t (finished.demand s room taken);
    }

prints : (left before after : Option (List ℕ)) (r : Result (Unit {0}) Failure) (room out out' : List ℕ) (q : Quarter) (n : ℕ)
    → TakenAll left room out (Ok q) → Finished out q n out' → OnOk r (Appends before after (take n out')) → IfErr r (λ e. e ≡ Unwritten) → PrintsQuarter left before after r
prints (Some s) before after (Ok u) room out out' q n taken finished written u' = summarized s room out out' q n before after taken finished written
prints None before after (Ok u) room out out' q n taken finished written u' =
    (taken.0, summarized (taken.0) room out out' q n before after (taken.1) finished written)
prints left before after (Err Unread) room out out' q n taken finished written u' = absurd (cc)
prints left before after (Err Unwritten) room out out' q n taken finished written u' = tt

pub returns : goal.returns
returns g c = prints _ _ _ _ _ _ _ _ _ c.in_ok-q.ensures c.finish-n.ensures c.write_front.ensures.written c.write_front.ensures.unwritten
