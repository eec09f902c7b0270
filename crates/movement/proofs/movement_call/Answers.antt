-- Each return is the chain of the tests that led to it: the length, the lines, what the block call says. Past the last one the lines are written, and
-- what the theorem says of them is a law of that outcome. Assumes nothing.
use Rattle.basics.proofs.Common.{◌≡◌, length, Result, sym, ap, ◌∙◌, arith, err_from_is_err_and}
use Rattle.refusal.specs.declared.Refusal.{Refusal}
use Rattle.guideline.specs.declared.Block.{Block}
use Rattle.sizes.specs.Sizes.{block_numbers}
use Rattle.figures.specs.Parts.{figures_are}
use Rattle.block.specs.Call.{stated_block, block_call}
use Rattle.movement_input.specs.Reading.{block_of}
use Rattle.movement_input.proofs.Numbers.{length_numbers}
use Rattle.movement.proofs.Calls.{wrong_length, broken_line, block_refused, no_room, lines_answered, promised}
use Rattle.movement.proofs.movement_call.Goals.{After-accepted_block}
use Rattle.movement.proofs.movement_call.Goals as goal

-- what the block call says of the block that was read
said : (c : After-accepted_block) (a : Result Block Refusal) → c.accepted_block.result ≡ a → stated_block a ≡ block_call (block_of c.in-Some.input.now)
said c a e = sym (ap stated_block e) ∙ c.accepted_block.ensures.outcome ∙ ap block_call c.block_of.ensures

pub returns-in_default : goal.returns-in_default
returns-in_default c = promised _ _ _ (wrong_length _ _ c.in_default.ensures.cases)

pub returns-in-Some-first_broken : goal.returns-in-Some-first_broken
returns-in-Some-first_broken c =
    let w = c.in-Some.ensures.cases in
    rw (← w.same) (promised _ _ _ (broken_line _ _ (ap length w.same ∙ w.long) c.in-Some-first_broken.ensures))

pub write_movements-requires : goal.write_movements-requires
write_movements-requires c =
    let read = c.in_ok-block.ensures.numbers ∙ c.block_of.ensures in (
      ap length read ∙ length_numbers _ block_numbers,
      (figures_are _ _ c.figures_of-figures.ensures).4,
      omega (arith, c.if-room-lt-MOVEMENT_BYTES.false),
    )

pub returns-in_err-block : goal.returns-in_err-block
returns-in_err-block c =
    let w = c.in-Some.ensures.cases in
    let e = said (goal.at.returns-in_err-block c).After-accepted_block _ c.in_err-block.was in
    let p = err_from_is_err_and c.from_residual.result c.from_residual.ensures.1 in
    rw (p.1, p.2, ← w.same) (promised _ _ _ (block_refused _ _ (ap length w.same ∙ w.long) c.in_default-first_broken.ensures e))

pub returns-then-room-lt-MOVEMENT_BYTES : goal.returns-then-room-lt-MOVEMENT_BYTES
returns-then-room-lt-MOVEMENT_BYTES c =
    let w = c.in-Some.ensures.cases in
    let e = said (goal.at.returns-then-room-lt-MOVEMENT_BYTES c).After-accepted_block _ c.in_ok-block.was in
    rw (← w.same)
    (promised _ _ _
    (no_room _ _ (ap length w.same ∙ w.long) c.in_default-first_broken.ensures e (omega (arith, c.if-room-lt-MOVEMENT_BYTES.true))))

pub returns : goal.returns
returns c =
    let w = c.in-Some.ensures.cases in
    rw (← w.same)
    (promised _ _ _
    (lines_answered _ _ (ap length w.same ∙ w.long) c.in_default-first_broken.ensures (said (goal.at.returns c).After-accepted_block _ c.in_ok-block.was)
    (omega (arith, c.if-room-lt-MOVEMENT_BYTES.false)) (c.in_ok-block.ensures.numbers ∙ c.block_of.ensures) c.number_at-raise.ensures c.write_movements.ensures))
