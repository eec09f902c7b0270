-- The calibration points hold, and no program with one of the miscalibrations meets its call's contract.
pub mod Computation
pub mod Rows
pub mod Refutations
pub mod NearestRoots
pub mod Netting
pub mod Programs
