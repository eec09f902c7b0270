-- What judging tells is what the judgement has to tell, so each way out is the call's: a refusal, or what is made of the ledger. Assumes nothing.
use Rattle.basics.proofs.Common.{◌∙◌, err_from_is_err_and}
use Rattle.sheet_answer.proofs.Judgements.{turned}
use Rattle.check_call.proofs.Calls.{off_tables, promised}
use Rattle.check_call.proofs.check_call.Goals as goal

pub judge-requires : goal.judge-requires
judge-requires c = c.new-ledger.ensures

pub returns-in_err-judge : goal.returns-in_err-judge
returns-in_err-judge c =
    let p = err_from_is_err_and c.from_residual.result c.from_residual.ensures.1 in
    rw (p.1, p.2) (promised _ _ _ (turned _ _ _ _ _ c.in_err-judge.ensures.findings))

pub returns : goal.returns
returns c =
    promised _ _ _ (c.list.ensures ∙ off_tables _ _ _ _ _ _ _ c.in_ok-judge.ensures.findings c.judge.new.ledger c.in_ok-judge.ensures.tables)
