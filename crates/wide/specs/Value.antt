-- The number that two machine words stand for. Assumes nothing.
use Rattle.std.specs.Prelude.{ℕ, ◌+◌, ◌*◌, ◌^◌}
use Rattle.wide.specs.declared.Wide.{Wide}

-- the upper word counts 2^64 each
unfoldable pub value : Wide → ℕ
value w = w.high * 2 ^ 64 + w.low
