-- A participating block has no credit; another's is at its place. Assumes nothing.
use Rattle.basics.proofs.Common.{sym}
use Rattle.credits.proofs.Credits.{participating_none}
use Rattle.credits.proofs.CreditedLedger.credit_of.Goals as goal

pub returns-then-block-gt-NON_PARTICIPATING : goal.returns-then-block-gt-NON_PARTICIPATING
returns-then-block-gt-NON_PARTICIPATING c es H = sym (participating_none es H.lines _ c.if-block-gt-NON_PARTICIPATING.true)
