-- Document 01's calibration points, and the miscalibrations that it names.
pub mod Points
pub mod Miscalibrations
