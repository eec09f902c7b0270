-- 'Actuaries ask how far a late correction can swing the result' (document 02, #111): what the movement call promises of every risk whose raise is
-- within the limit. Assumes nothing.
use Rattle.std.specs.Prelude.{◌≡◌, List, ℕ, suc, ◌+◌, ◌-◌, ◌*◌, ◌^◌, ◌≤◌, ◌<◌, nat_abs, take, drop}
use Rattle.refusal.specs.Outcome.{Outcome}
use Rattle.refusal.specs.Outcome.Outcome.{accepted, refused}
use Rattle.amount.specs.Amount.{limit}
use Rattle.sizes.specs.Sizes.{risks, number_columns}
use Rattle.guideline.specs.Block.{ir, AcceptedBlock}
use Rattle.sensitivity.specs.Movement.{raised, Movement}
use Rattle.report_line.specs.Line.{report_line_bytes}
use Rattle.movement_input.specs.Reading.{block_of, raise_of}
use Rattle.movement.specs.Call.{MOV, signed_line, movement}

-- of a block b, a raise t, the risk behind k others and the room afterwards
pub record Moved (b : List ℕ) (t k : ℕ) (room : List ℕ) : Type 0 where
  -- 'the block still accepted'
  pub still_accepted : AcceptedBlock (raised b (suc k) t)
  -- 'the exact K moves by at most t either way .. and the reported K by less than t + 2'
  pub moves : Movement b (raised b (suc k) t) t
  -- the movement that the risk's line gives is less than t + 2, whatever its sign
  pub line : take report_line_bytes (drop (report_line_bytes * k) room) ≡ signed_line MOV 0 (suc k) (movement b t (suc k))
  pub within : nat_abs (movement b t (suc k)) < t + 2
  -- and it has its columns, with one for the minus
  pub fits : nat_abs (movement b t (suc k)) < 10 ^ (number_columns - 1)

-- by the call's outcome: where it accepts, so for each risk whose raise is within the limit
abbrev pub MovementsBounded : List ℕ → Outcome → List ℕ → Type 0
MovementsBounded s (refused n p) room = Unit {0}
MovementsBounded s (accepted vs) room = (k : ℕ) → k < risks → ir (block_of s) (suc k) + raise_of s ≤ limit → Moved (block_of s) (raise_of s) k room
