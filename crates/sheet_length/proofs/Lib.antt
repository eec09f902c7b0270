-- What measuring a sheet gives, case by case. Assumes nothing.
pub mod Measures
