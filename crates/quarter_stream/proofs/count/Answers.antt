-- Minus signs are counted up to 39; anything else is none of them, and stays so. Assumes nothing.
use Rattle.basics.proofs.Common.{sym}
use Rattle.quarter_stream.proofs.Room.{no_minus, minus_more, minus_past, other_counted}
use Rattle.quarter_stream.proofs.count.Goals as goal

pub returns-then-b-ne-MINUS : goal.returns-then-b-ne-MINUS
returns-then-b-ne-MINUS c = sym (no_minus _ _ c.if-b-ne-MINUS.true)

pub returns-in-Some : goal.returns-in-Some
returns-in-Some c = rw c.in-Some.is (sym (minus_more _ _ c.if-b-ne-MINUS.false c.if-m-lt-MINUSES.true))

pub returns-in_default : goal.returns-in_default
returns-in_default c = rw c.in-Some.is (sym (minus_past _ _ c.if-b-ne-MINUS.false c.if-m-lt-MINUSES.false))

pub returns-in_default-2 : goal.returns-in_default-2
returns-in_default-2 c = rw c.in_default.is (sym (other_counted _))
