-- Each arm is that of the number, and its companion what the line needs. Assumes nothing.
use Rattle.basics.proofs.Common.{sym, ◌∙◌, arith}
use Rattle.needs.proofs.LineNumbers.{keyed, is_mor, is_vol, is_acq, is_crd, segregated_need, block_need}
use Rattle.needs.proofs.needing.Goals as goal

pub invariant_of-result : goal.invariant_of-result
invariant_of-result c =
    record {
      key = rw (c.new-line.ensures ∙ sym (is_crd _ c.if-n-gt-LAST_ACQ.true)) (keyed _ c.requires.0 c.requires.1);
      needed = rw (c.new-line.ensures, c.new-companion.ensures) (block_need _ (λ e. omega arith));
    }

pub returns-then-n-gt-LAST_ACQ : goal.returns-then-n-gt-LAST_ACQ
returns-then-n-gt-LAST_ACQ c = c.new-line.ensures ∙ sym (is_crd _ c.if-n-gt-LAST_ACQ.true)

pub returns-then-n-gt-LAST_VOL : goal.returns-then-n-gt-LAST_VOL
returns-then-n-gt-LAST_VOL c = c.new-line-then-n-gt-LAST_VOL.ensures ∙ sym (is_acq _ c.if-n-gt-LAST_VOL.true c.if-n-gt-LAST_ACQ.false)

pub invariant_of-result-then-n-gt-LAST_MOR : goal.invariant_of-result-then-n-gt-LAST_MOR
invariant_of-result-then-n-gt-LAST_MOR c =
    record {
      key = rw (c.new-line-then-n-gt-LAST_MOR.ensures ∙ sym (is_vol _ c.if-n-gt-LAST_MOR.true c.if-n-gt-LAST_VOL.false)) (keyed _ c.requires.0 c.requires.1);
      needed = rw (c.new-line-then-n-gt-LAST_MOR.ensures, c.new-companion-then-n-gt-LAST_MOR.ensures) segregated_need;
    }

pub returns-then-n-gt-LAST_MOR : goal.returns-then-n-gt-LAST_MOR
returns-then-n-gt-LAST_MOR c =
    c.new-line-then-n-gt-LAST_MOR.ensures ∙ sym (is_vol _ c.if-n-gt-LAST_MOR.true c.if-n-gt-LAST_VOL.false)

pub returns : goal.returns
returns c = c.new-line-2.ensures ∙ sym (is_mor _ c.if-n-gt-LAST_MOR.false)
