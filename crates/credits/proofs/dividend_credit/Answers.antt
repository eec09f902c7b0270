-- A block without participation has none; a participating one's is at its CRD place. Assumes nothing.
use Rattle.basics.proofs.Common.{sym, ◌∙◌}
use Rattle.codes.specs.Codes.{dividend_class}
use Rattle.codes.specs.declared.Code.TheVariants.{Crd}
use Rattle.ledger.proofs.Tables.{amount_is}
use Rattle.places.proofs.Keys.{dividend_key}
use Rattle.credits.proofs.Credits.{no_dividend}
use Rattle.credits.proofs.dividend_credit.Goals as goal

pub returns-then-block-le-NON_PARTICIPATING : goal.returns-then-block-le-NON_PARTICIPATING
returns-then-block-le-NON_PARTICIPATING c es H = sym (no_dividend es H.lines _ c.if-block-le-NON_PARTICIPATING.true c.requires.block_number.0).0

pub amounts-requires : goal.amounts-requires
amounts-requires c = dividend_key _ c.if-block-le-NON_PARTICIPATING.false c.requires.block_number.1

pub returns : goal.returns
returns c es H =
    c.amounts.ensures.first ∙ (amount_is H Crd _ dividend_class (dividend_key _ c.if-block-le-NON_PARTICIPATING.false c.requires.block_number.1)).0
