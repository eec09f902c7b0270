-- A choice by a test. Every definition that goes by tests is made of it, and the laws that follow it are in proofs/Picks.
-- Assumes nothing.
use Rattle.std.specs.Prelude.{Bool, true, false}

-- the first where the test holds, else the second
unfoldable pub pick {ℓ} : {A : Type ℓ} → Bool → A → A → A
pick true a b = a
pick false a b = b
