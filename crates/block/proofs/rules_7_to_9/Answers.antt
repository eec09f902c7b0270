-- Each return is the chain of the tests that led to it: rules 7, 8 and 9 in order, and past the last one the block is accepted. Assumes nothing.
use Rattle.basics.proofs.Common.{sym, ◌∙◌}
use Rattle.amount.proofs.Amounts.{none_above}
use Rattle.block.proofs.Rules.{turned_by_7, past_7, refused_8, passed_8, refused_9, passed_9, acceptable}
use Rattle.block.proofs.rules_7_to_9.Goals as goal

pub returns-in-Some-clause-outcome : goal.returns-in-Some-clause-outcome
returns-in-Some-clause-outcome c = sym (turned_by_7 _ c.in-Some.ensures)

pub returns-then-b-ne0-clause-outcome : goal.returns-then-b-ne0-clause-outcome
returns-then-b-ne0-clause-outcome c = sym (past_7 _ c.in_default.ensures ∙ refused_8 _ c.if-b-ne0.true)

pub returns-in-Some-first_lt_above-clause-outcome : goal.returns-in-Some-first_lt_above-clause-outcome
returns-in-Some-first_lt_above-clause-outcome c =
    sym (past_7 _ c.in_default.ensures ∙ passed_8 _ c.if-b-ne0.false ∙ refused_9 _ c.in-Some-first_lt_above.ensures)

pub returns-clause-passed : goal.returns-clause-passed
returns-clause-passed c = acceptable _ (none_above _ c.in_default.ensures) c.if-b-ne0.false c.in_default-first_lt_above.ensures

pub returns-clause-outcome : goal.returns-clause-outcome
returns-clause-outcome c =
    sym (past_7 _ c.in_default.ensures ∙ passed_8 _ c.if-b-ne0.false ∙ passed_9 _ c.in_default-first_lt_above.ensures)
