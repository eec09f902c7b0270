-- A block without participation has none; a participating one's mark is at its CRD place. Assumes nothing.
use Rattle.basics.proofs.Common.{sym, ◌∙◌}
use Rattle.codes.specs.Codes.{dividend_class}
use Rattle.codes.specs.declared.Code.TheVariants.{Crd}
use Rattle.ledger.proofs.Tables.{mark_is}
use Rattle.places.proofs.Keys.{dividend_key}
use Rattle.credits.proofs.Credits.{no_dividend}
use Rattle.credits.proofs.has_dividend.Goals as goal

pub returns-then-block-le-NON_PARTICIPATING : goal.returns-then-block-le-NON_PARTICIPATING
returns-then-block-le-NON_PARTICIPATING c es H = sym (no_dividend es H.lines _ c.if-block-le-NON_PARTICIPATING.true c.requires.block_number.0).1

pub has_line-requires : goal.has_line-requires
has_line-requires c = dividend_key _ c.if-block-le-NON_PARTICIPATING.false c.requires.block_number.1

pub returns : goal.returns
returns c es H =
    c.has_line.ensures ∙ mark_is H Crd _ dividend_class (dividend_key _ c.if-block-le-NON_PARTICIPATING.false c.requires.block_number.1)
