-- A class of a territory that can have a VOL line can have an ACQ line, and two amounts fit a word. Assumes nothing.
use Rattle.basics.proofs.Common.{arith, props}
use Rattle.ledger.proofs.Tables.{of_lines, joined_small}
use Rattle.ledger.proofs.Ledger.volume.Goals as goal

pub overflow_add-result : goal.overflow_add-result
overflow_add-result c =
    of_lines c.args.self.now (hlevel props)
    (λ es H. omega (arith, joined_small H _ _ c.requires, c.amounts-own.ensures.second, c.amount_of-acquired.ensures))
