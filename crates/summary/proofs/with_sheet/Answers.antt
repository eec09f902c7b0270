-- The first sheet is all that there is; any other is compared with the smallest and the largest so far. Assumes nothing.
use Rattle.basics.proofs.Common.{◌∙◌}
use Rattle.std.proofs.lemmas.List.Sorted.{answers_always}
use Rattle.summary.proofs.Extremes.{smaller_is, larger_is}
use Rattle.summary.proofs.Summaries.{summary_first, summary_more}
use Rattle.summary.proofs.with_sheet.Goals as goal

pub returns-then-s-eq0 : goal.returns-then-s-eq0
returns-then-s-eq0 c xs e = summary_first _ _ c.if-s-eq0.true xs e

pub returns : goal.returns
returns c xs e =
    summary_more _ _ c.if-s-eq0.false xs e (c.min_by_key.ensures (λ x. x.buffer) (answers_always _ _ _ (λ f a r g k. search k)) ∙ smaller_is _ _)
    (c.max_by_key.ensures (λ x. x.buffer) (answers_always _ _ _ (λ f a r g k. search k)) ∙ larger_is _ _)
