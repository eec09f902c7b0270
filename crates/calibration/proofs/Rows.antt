-- Every row of document 01's table holds: the computed test. Assumes nothing.
use Rattle.basics.proofs.Common.{T}
use Rattle.calibration.specs.Points.{all_given, points}
use Rattle.calibration.proofs.Computation.{computed}

pub calibrated : T (all_given points)
calibrated = computed.rows
